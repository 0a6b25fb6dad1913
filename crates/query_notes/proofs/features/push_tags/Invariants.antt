use Rattle.std.proofs.Common.{All}
use Rattle.std.specs.Prelude.{string_bytes}
use Rattle.query_notes.specs.Notes.{IsNote}
use Rattle.query_notes.proofs.features.push_tags.Given as goal

abbrev pub invariant-loop-tag : goal.invariant-loop-tag
invariant-loop-tag l = All (λ note. IsNote (string_bytes note)) l.notes.items
