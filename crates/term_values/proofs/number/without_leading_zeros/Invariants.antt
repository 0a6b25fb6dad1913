use Rattle.std.proofs.Common.{◌≡◌, length}
use Rattle.term_values.specs.Digits.{without_leading_zeros}
use Rattle.term_values.proofs.number.without_leading_zeros.Given as goal

abbrev pub invariant-loop-rest : goal.invariant-loop-rest
invariant-loop-rest l = without_leading_zeros l.rest ≡ without_leading_zeros l.digits

abbrev pub decreases-loop-rest : goal.decreases-loop-rest
decreases-loop-rest l = length l.rest
