use Rattle.std.proofs.Common.{refl, arith}
use Rattle.sparql_lexer.proofs.PatternLaws.{rest_suffix}
use Rattle.sparql_lexer.proofs.ColonlessLaws.{clear_to, clear_here, clear_dotted}
use Rattle.sparql_lexer.proofs.names.clear_end.Goals as goal

pub ends_with_dot-requires : goal.ends_with_dot-requires
ends_with_dot-requires c = rest_suffix c.requires.matches

pub returns-in-None : goal.returns-in-None
returns-in-None c = clear_to c.args.text.now c.args.end.now c.requires c.in-None.ensures

pub returns-in-Some : goal.returns-in-Some
returns-in-Some c = clear_dotted c.args.text.now c.args.end.now c.requires (c.if-ends_with_dot.ensures refl)

pub returns-in-Some-2 : goal.returns-in-Some-2
returns-in-Some-2 c = clear_here c.args.text.now c.args.text.now (omega arith)
