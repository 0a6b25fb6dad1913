use Rattle.std.proofs.Common.{◌≡◌, take}
use Rattle.row_join.specs.KeyTable.{key_hash}
use Rattle.row_join.proofs.hashing.key_hash.Given as goal

abbrev pub invariant-loop-number : goal.invariant-loop-number
invariant-loop-number l = l.hash ≡ key_hash l.state (take l.number-index l.numbers)
