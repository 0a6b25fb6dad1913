use Rattle.std.proofs.Common.{◌≡◌, ◌++◌}
use Rattle.std.specs.Prelude.{flat_map, string_bytes}
use Rattle.std.proofs.lemmas.Result.{IfOk-weaker}
use Rattle.query_notes.specs.Notes.{AreNotes}
use Rattle.query_notes.proofs.NoteSteps.{are_notes}
use Rattle.query_notes.proofs.notes.notes_on.Goals as goal

pub returns : goal.returns
returns c =
    let notes = c.push_graphs.new.notes.items in
    let rows = c.in_ok-on_rows.on_rows.items in
    let joined = rw (c.deref.ensures.value, c.deref-2.ensures.value) at c.joined.ensures.joined in
    record {
      notes =
          IfOk-weaker c.joined.result (λ text. string_bytes text ≡ flat_map string_bytes notes ++ flat_map (λ note. string_bytes note.text) rows) (λ text. AreNotes (string_bytes text))
          (λ text e. are_notes string_bytes notes rows c.in_ok-push_graphs.ensures.notes c.in_ok-on_rows.ensures.counted c.in_ok-on_rows.ensures.most_first c.in_ok-on_rows.ensures.few (string_bytes text) e) joined;
    }
