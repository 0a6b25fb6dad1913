use Rattle.std.proofs.Common.{Option, List, ℕ, length}
use Rattle.std.specs.Borrow.{Bor}
use Rattle.sparql_lexer.specs.Forms.{inside_of}
use Rattle.sparql_lexer.specs.Pattern.{Ends}
use Rattle.sparql_lexer.proofs.enclosed.skip_inside.Given as goal

abbrev pub invariant-pieces : goal.invariant-pieces
invariant-pieces l = (res : Option (Bor (List ℕ))) → Ends (inside_of l.enclosure) l.rest res → Ends (inside_of l.enclosure) l.text res

abbrev pub decreases-pieces : goal.decreases-pieces
decreases-pieces l = length l.rest
