use Rattle.std.proofs.Common.{arith}
use Rattle.std.proofs.lemmas.List.Elements.{All-push}
use Rattle.query_notes.specs.Notes.{IsRowNote}
use Rattle.query_notes.proofs.notes.push_text.Goals as goal

pub returns : goal.returns
returns c = record {
  counted =
      rw c.in_ok-push.ensures.items
      (All-push IsRowNote _ _ c.requires.counted (record {
        tally = c.args.tally.now;
        speaks = c.requires.speaks;
        some = c.requires.some;
        rows = c.requires.rows;
        fits = omega (arith, c.ranges.rows);
        text = c.requires.text;
      }));
}
