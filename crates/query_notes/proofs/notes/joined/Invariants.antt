use Rattle.std.proofs.Common.{◌≡◌, ◌++◌, take}
use Rattle.std.specs.Prelude.{flat_map, string_bytes}
use Rattle.query_notes.proofs.notes.joined.Given as goal

abbrev pub invariant-loop-note : goal.invariant-loop-note
invariant-loop-note l = string_bytes l.out ≡ flat_map string_bytes (take l.note-index l.notes)

abbrev pub invariant-loop-row : goal.invariant-loop-row
invariant-loop-row l = string_bytes l.out ≡ flat_map string_bytes l.notes ++ flat_map (λ note. string_bytes note.text) (take l.row-index l.on_rows)
