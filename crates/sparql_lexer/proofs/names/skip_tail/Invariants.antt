use Rattle.std.proofs.Common.{List, ℕ, length}
use Rattle.sparql_lexer.specs.Forms.{part_of}
use Rattle.sparql_lexer.specs.Pattern.{EndsAt}
use Rattle.sparql_lexer.specs.Names.{tail}
use Rattle.sparql_lexer.proofs.names.skip_tail.Given as goal

abbrev pub invariant-parts : goal.invariant-parts
invariant-parts l = (end : List ℕ) → EndsAt (tail (part_of l.part)) l.rest end → EndsAt (tail (part_of l.part)) l.text end

abbrev pub decreases-parts : goal.decreases-parts
decreases-parts l = length l.rest
