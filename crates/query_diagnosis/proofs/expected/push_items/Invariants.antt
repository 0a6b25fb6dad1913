use Rattle.std.proofs.Common.{◌≡◌, ◌++◌, List, ℕ}
use Rattle.std.specs.Prelude.{string_bytes}
use Rattle.query_diagnosis.proofs.expected.push_items.Given as goal

abbrev pub invariant-loop-i : goal.invariant-loop-i
invariant-loop-i l = (text : List ℕ) × (string_bytes l.out ≡ string_bytes l.fn.out ++ text)
