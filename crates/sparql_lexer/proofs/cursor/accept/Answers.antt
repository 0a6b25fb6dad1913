use Rattle.std.proofs.Common.{nat_eq}
use Rattle.sparql_lexer.proofs.PatternLaws.{found, equal_true}
use Rattle.sparql_lexer.proofs.cursor.accept.Goals as goal

pub returns-then-first-expected : goal.returns-then-first-expected
returns-then-first-expected c = found (nat_eq c.args.expected) c.args.text.now c.in_ok-first.after.now c.in_ok-first.first c.in_ok-first.ensures (equal_true c.args.expected c.in_ok-first.first c.if-first-expected.true)
