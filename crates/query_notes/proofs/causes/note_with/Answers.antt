use Rattle.std.specs.Prelude.{string_bytes}
use Rattle.std.proofs.lemmas.Result.{IfOk-weaker}
use Rattle.query_notes.specs.Notes.{IsNoteOf}
use Rattle.query_notes.proofs.causes.note_with.Goals as goal

pub returns : goal.returns
returns c =
    let written = rw (c.least_of-least.ensures.words, c.noun_of-noun.ensures.words) at c.format.ensures.ok in
    record {
      note =
          IfOk-weaker c.format.result _ (λ s. IsNoteOf c.args.tally.now (string_bytes s))
          (λ s whole. record {
            places = c.args.places.now;
            loss = c.args.loss.now;
            reason = c.args.reason.now;
            whole = whole;
          }) written;
    }
