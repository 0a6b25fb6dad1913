use Rattle.dataset_load.proofs.CountingSteps.{terms_from}
use Rattle.dataset_load.proofs.streaming.load_terms.Goals as goal

pub returns-clause-terms : goal.returns-clause-terms
returns-clause-terms g c = terms_from _ _ _ c.in_ok-so_far.ensures.filter c.in_ok-so_far.ensures.read
