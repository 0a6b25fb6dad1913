use Rattle.sparql_lexer.proofs.PatternLaws.{only_right, left_at, nearer, other_farther}
use Rattle.sparql_lexer.proofs.cursor.farther.Goals as goal

pub returns-in_default : goal.returns-in_default
returns-in_default c = λ a b text x y. only_right a b text c.args.other (rw c.in_default.is at x) y

pub returns-in_default-other : goal.returns-in_default-other
returns-in_default-other c = λ a b text x y. left_at a b text c.in-Some.end.now (rw c.in_default-other.is at y) (rw c.in-Some.is at x)

pub returns-then-farther-end : goal.returns-then-farther-end
returns-then-farther-end c = λ a b text x y. other_farther a b text c.in-Some.end.now c.in-Some-other.farther.now (rw c.in-Some.is at x) (rw c.in-Some-other.is at y) c.if-farther-end.true

pub returns-else-farther-end : goal.returns-else-farther-end
returns-else-farther-end c = λ a b text x y. nearer a b text c.in-Some.end.now c.in-Some-other.farther.now (rw c.in-Some.is at x) (rw c.in-Some-other.is at y) c.if-farther-end.false
