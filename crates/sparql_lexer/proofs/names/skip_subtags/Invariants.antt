use Rattle.std.proofs.Common.{List, ℕ, length}
use Rattle.std.specs.Borrow.{Bor}
use Rattle.sparql_lexer.specs.Pattern.{many, EndsAt}
use Rattle.sparql_lexer.specs.Names.{subtag}
use Rattle.sparql_lexer.proofs.names.skip_subtags.Given as goal

abbrev pub invariant-subtags : goal.invariant-subtags
invariant-subtags l = (end : Bor (List ℕ)) → EndsAt (many subtag) l.rest end.now → EndsAt (many subtag) l.text end.now

abbrev pub decreases-subtags : goal.decreases-subtags
decreases-subtags l = length l.rest
