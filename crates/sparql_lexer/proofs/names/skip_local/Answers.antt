use Rattle.std.proofs.Common.{Some}
use Rattle.sparql_lexer.specs.Names.{tail, local_part}
use Rattle.sparql_lexer.proofs.PatternLaws.{then_sure}
use Rattle.sparql_lexer.proofs.ProductionLaws.{start_sure}
use Rattle.sparql_lexer.proofs.names.skip_local.Goals as goal

pub returns : goal.returns
returns c = then_sure (tail local_part) (Some c.skip_tail.result) start_sure c.in_ok-after.ensures.matches c.skip_tail.ensures
