use Rattle.std.proofs.Common.{All}
use Rattle.std.specs.Prelude.{string_bytes}
use Rattle.query_notes.specs.Notes.{IsNote}
use Rattle.query_notes.proofs.features.push_variables.Given as goal

abbrev pub invariant-loop-at : goal.invariant-loop-at
invariant-loop-at l = All (λ note. IsNote (string_bytes note)) l.notes.items
