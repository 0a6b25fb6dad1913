use Rattle.std.proofs.Common.{◌∙◌, sym}
use Rattle.sparql_lexer.specs.Classes.{members}
use Rattle.sparql_lexer.proofs.PatternLaws.{found}
use Rattle.sparql_lexer.proofs.cursor.accept_one.Goals as goal

pub returns-then-is_member : goal.returns-then-is_member
returns-then-is_member c = found (members c.args.class) c.args.text.now c.in_ok-first.after.now c.in_ok-first.first c.in_ok-first.ensures (sym c.is_member.ensures ∙ c.if-is_member.true)
