use Rattle.std.proofs.Common.{◌≡◌, length, take}
use Rattle.text_dict.specs.Slots.{AreMoved}
use Rattle.text_dict.proofs.slots.table_with.Given as goal

abbrev pub invariant-loop-i : goal.invariant-loop-i
invariant-loop-i l = record {
  len : length l.longer.items ≡ l.len;
  moved : AreMoved (take l.i l.slots) l.longer.items;
}
