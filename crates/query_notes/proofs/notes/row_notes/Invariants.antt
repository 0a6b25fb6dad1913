use Rattle.std.proofs.Common.{All}
use Rattle.query_notes.specs.Notes.{IsRowNote}
use Rattle.query_notes.proofs.notes.row_notes.Given as goal

abbrev pub invariant-loop-tally : goal.invariant-loop-tally
invariant-loop-tally l = All IsRowNote l.notes.items
