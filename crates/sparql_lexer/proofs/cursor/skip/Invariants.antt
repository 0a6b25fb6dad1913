use Rattle.std.proofs.Common.{ℕ, List, length}
use Rattle.sparql_lexer.specs.Pattern.{character, many, EndsAt}
use Rattle.sparql_lexer.specs.Classes.{members}
use Rattle.sparql_lexer.proofs.cursor.skip.Given as goal

abbrev pub invariant-run : goal.invariant-run
invariant-run l = (end : List ℕ) → EndsAt (many (character (members l.class))) l.rest end → EndsAt (many (character (members l.class))) l.text end

abbrev pub decreases-run : goal.decreases-run
decreases-run l = length l.rest
