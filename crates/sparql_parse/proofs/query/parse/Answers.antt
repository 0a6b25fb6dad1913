use Rattle.std.proofs.lemmas.Result.{err_from_is_err_and}
use Rattle.sparql_parse.proofs.QuerySteps.{fault_read}
use Rattle.sparql_parse.proofs.query.parse.Goals as goal

pub returns-in_err-query : goal.returns-in_err-query
returns-in_err-query c = (let p = err_from_is_err_and c.from_residual.result c.from_residual.ensures.1 in rw (p.1, p.2) record { query = fault_read c.in_err-query.field-0.0 c.in_err-query.ensures.reads })
