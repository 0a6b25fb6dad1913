use Rattle.std.proofs.Common.{◌≡◌}
use Rattle.sparql_grammar.specs.Symbol as the
use Rattle.sparql_grammar.proofs.ProductionLaws.{good}
use Rattle.sparql_grammar.proofs.MatchLaws.{unique, ends_low}
use Rattle.sparql_grammar.proofs.laws.one_query.Goals as goal

pub returns : goal.returns
returns c = record { unique = λ ns ts q r d e. (unique 8 (good the.query) d ends_low e ends_low).value }
