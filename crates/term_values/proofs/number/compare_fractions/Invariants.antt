use Rattle.std.proofs.Common.{◌≡◌, drop}
use Rattle.term_values.specs.Digits.{fraction_order}
use Rattle.term_values.proofs.number.compare_fractions.Given as goal

abbrev pub invariant-loop-place : goal.invariant-loop-place
invariant-loop-place l = fraction_order (drop l.place l.left) (drop l.place l.right) ≡ fraction_order l.left l.right
