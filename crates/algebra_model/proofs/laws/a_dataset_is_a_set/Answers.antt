use Rattle.algebra_model.proofs.EvalLaws.{eval-IsSameSet}
use Rattle.algebra_model.proofs.laws.a_dataset_is_a_set.Goals as goal

pub returns : goal.returns
returns c = record { same_results = eval-IsSameSet }
