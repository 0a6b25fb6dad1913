use Rattle.std.proofs.Common.{◌≡◌, ◌%◌, take}
use Rattle.std.specs.Str.Parse.{digits_value_after}
use Rattle.term_values.specs.EqualityKey.{modulus}
use Rattle.term_values.proofs.equality.with_digits.Given as goal

abbrev pub invariant-loop-i : goal.invariant-loop-i
invariant-loop-i l = l.key ≡ digits_value_after 10 l.before (take l.i l.digits) % modulus
