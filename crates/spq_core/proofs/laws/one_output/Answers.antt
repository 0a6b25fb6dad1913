use Rattle.spq_core.proofs.OutcomeLaws as laws
use Rattle.spq_core.proofs.laws.one_output.Goals as goal

pub returns : goal.returns
returns c = record { law = laws.one_output c.one_meaning.ensures.law c.one_outcome.ensures.law }
