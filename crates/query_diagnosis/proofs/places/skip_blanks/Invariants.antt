use Rattle.std.proofs.Common.{◌≡◌, ◌≤◌, length, false}
use Rattle.sparql_lexer.specs.Blanks.{beyond}
use Rattle.query_diagnosis.proofs.places.skip_blanks.Given as goal

abbrev pub invariant-blanks : goal.invariant-blanks
invariant-blanks l = (beyond l.in_comment l.rest ≡ beyond false l.text) × (length l.rest ≤ length l.text)

abbrev pub decreases-blanks : goal.decreases-blanks
decreases-blanks l = length l.rest
