use Rattle.std.proofs.Common.{None}
use Rattle.sparql_lexer.specs.Pattern.{is, ◌▸◌}
use Rattle.sparql_lexer.proofs.PatternLaws.{then_none, then_sure}
use Rattle.sparql_lexer.proofs.ProductionLaws.{sure_is}
use Rattle.sparql_lexer.proofs.enclosed.skip_three.Goals as goal

pub returns-in_err-two : goal.returns-in_err-two
returns-in_err-two c = rw c.from_residual-in_err-two.ensures (then_sure ((is c.args.quote) ▸ (is c.args.quote)) None (sure_is c.args.quote) c.in_ok-one.ensures.matches (then_none (is c.args.quote) (is c.args.quote) c.in_ok-one.one.now c.in_err-two.ensures))

pub returns : goal.returns
returns c = then_sure ((is c.args.quote) ▸ (is c.args.quote)) c.accept-3.result (sure_is c.args.quote) c.in_ok-one.ensures.matches (then_sure (is c.args.quote) c.accept-3.result (sure_is c.args.quote) c.in_ok-two.ensures.matches c.accept-3.ensures)
