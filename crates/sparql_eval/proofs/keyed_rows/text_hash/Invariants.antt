use Rattle.std.proofs.Common.{◌≡◌, take}
use Rattle.sparql_eval.specs.KeyedRows.{text_hash}
use Rattle.sparql_eval.proofs.keyed_rows.text_hash.Given as goal

abbrev pub invariant-loop-byte : goal.invariant-loop-byte
invariant-loop-byte l = l.hash ≡ text_hash (take l.byte-index l.bytes)
