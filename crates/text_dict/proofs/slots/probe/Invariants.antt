use Rattle.std.proofs.Common.{take}
use Rattle.text_dict.specs.Slots.{ArePassed}
use Rattle.text_dict.proofs.slots.probe.Given as goal

abbrev pub invariant-loop-i : goal.invariant-loop-i
invariant-loop-i l = ArePassed l.texts l.text l.hash (take l.i l.slots)
