use Rattle.sparql_read.proofs.ResultLaws as laws
use Rattle.sparql_read.proofs.laws.one_result.Goals as goal

pub returns : goal.returns
returns c = record { unique = laws.one_result c.one_scan.ensures c.one_query.ensures.unique }
