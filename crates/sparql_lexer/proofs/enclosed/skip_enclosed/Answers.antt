use Rattle.sparql_lexer.specs.Forms.{inside_of}
use Rattle.sparql_lexer.proofs.PatternLaws.{then_sure}
use Rattle.sparql_lexer.proofs.ProductionLaws.{open_sure}
use Rattle.sparql_lexer.proofs.enclosed.skip_enclosed.Goals as goal

pub returns : goal.returns
returns c = then_sure (inside_of c.args.enclosure) c.skip_inside.result (open_sure c.args.enclosure) c.in_ok-inside.ensures.matches c.skip_inside.ensures
