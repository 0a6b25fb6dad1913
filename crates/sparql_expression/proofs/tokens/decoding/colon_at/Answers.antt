use Rattle.std.proofs.Common.{◌≡◌}
use Rattle.sparql_expression.proofs.CountLaws.{found_at, none_found}
use Rattle.sparql_expression.proofs.tokens.decoding.colon_at.Goals as goal

pub returns-in-Some-clause-value : goal.returns-in-Some-clause-value
returns-in-Some-clause-value c = found_at _ c.args.text.now c.in-Some.end c.in-Some.ensures

pub returns-in-None-clause-value : goal.returns-in-None-clause-value
returns-in-None-clause-value c = none_found _ c.args.text.now c.in-None.ensures
