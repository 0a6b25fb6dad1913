use Rattle.std.proofs.Common.{◌≡◌, ◌++◌}
use Rattle.std.specs.Prelude.{codes, string_bytes}
use Rattle.std.proofs.lemmas.Result.{IfOk-weaker}
use Rattle.query_notes.specs.Notes.{IsNote}
use Rattle.query_notes.proofs.features.note.Goals as goal

pub returns : goal.returns
returns c = record {
  note =
      IfOk-weaker c.format.result (λ note. string_bytes note ≡ codes "spq: note: " ++ (c.args.words.now ++ codes "\n")) (λ note. IsNote (string_bytes note))
      (λ note e. record { words = c.args.words.now; whole = e }) c.format.ensures.ok;
}
