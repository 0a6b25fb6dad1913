use Rattle.sparql_lexer.specs.Names.{local}
use Rattle.sparql_lexer.proofs.PatternLaws.{then_sure}
use Rattle.sparql_lexer.proofs.ProductionLaws.{namespace_sure}
use Rattle.sparql_lexer.proofs.names.skip_prefixed_name.Goals as goal

pub returns : goal.returns
returns c = then_sure local c.skip_local.result namespace_sure c.in_ok-after.ensures.matches c.skip_local.ensures
