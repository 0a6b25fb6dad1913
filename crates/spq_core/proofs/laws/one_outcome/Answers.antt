use Rattle.spq_core.proofs.OutcomeLaws as laws
use Rattle.spq_core.proofs.laws.one_outcome.Goals as goal

pub returns : goal.returns
returns c = record { law = laws.one_outcome c.one_result.ensures.unique c.one_meaning.ensures.law }
