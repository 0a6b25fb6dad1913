use Rattle.algebra_model.proofs.ClosedLaws.{closed-eval, join-in_each}
use Rattle.algebra_model.proofs.laws.closed_trees_are_evaluated_once.Goals as goal

pub returns-clause-everywhere : goal.returns-clause-everywhere
returns-clause-everywhere c = closed-eval

pub returns-clause-joined_once : goal.returns-clause-joined_once
returns-clause-joined_once c = join-in_each
