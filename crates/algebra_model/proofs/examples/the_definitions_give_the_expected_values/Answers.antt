use Rattle.std.proofs.Common.{refl}
use Rattle.algebra_model.proofs.examples.the_definitions_give_the_expected_values.Goals as goal

pub returns-clause-labels : goal.returns-clause-labels
returns-clause-labels c = refl

pub returns-clause-distinct : goal.returns-clause-distinct
returns-clause-distinct c = refl

pub returns-clause-minus : goal.returns-clause-minus
returns-clause-minus c = refl

pub returns-clause-unbound : goal.returns-clause-unbound
returns-clause-unbound c = refl

pub returns-clause-graphs : goal.returns-clause-graphs
returns-clause-graphs c = refl

pub returns-clause-undef : goal.returns-clause-undef
returns-clause-undef c = refl
