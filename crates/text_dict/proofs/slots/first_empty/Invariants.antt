use Rattle.std.proofs.Common.{take}
use Rattle.text_dict.specs.Slots.{AreUsed}
use Rattle.text_dict.proofs.slots.first_empty.Given as goal

abbrev pub invariant-loop-i : goal.invariant-loop-i
invariant-loop-i l = AreUsed (take l.i l.slots)
