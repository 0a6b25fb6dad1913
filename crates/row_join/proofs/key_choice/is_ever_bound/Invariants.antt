use Rattle.std.proofs.Common.{◌≡◌, take, false}
use Rattle.row_join.specs.Pairing.{binds}
use Rattle.row_join.proofs.key_choice.is_ever_bound.Given as goal

abbrev pub invariant-loop-i : goal.invariant-loop-i
invariant-loop-i l = binds (take l.i l.rows.rows) l.variable ≡ false
