use Rattle.std.proofs.Common.{◌≡◌, ◌*◌, ◌%◌, ◌^◌}
use Rattle.term_values.specs.EqualityKey.{modulus, tenth}
use Rattle.term_values.proofs.equality.tenths.Given as goal

abbrev pub invariant-loop : goal.invariant-loop
invariant-loop l = l.key ≡ (l.number * tenth ^ l.counter) % modulus
