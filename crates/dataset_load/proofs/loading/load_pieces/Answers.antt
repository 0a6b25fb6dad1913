use Rattle.dataset_load.proofs.LoadingSteps.{all_stored}
use Rattle.dataset_load.proofs.loading.load_pieces.Goals as goal

pub returns-clause-loaded : goal.returns-clause-loaded
returns-clause-loaded g c = all_stored _ _ c.store_of.result c.in_ok-so_far.ensures.filter c.in_ok-so_far.ensures.numbered c.store_of.ensures.loaded
