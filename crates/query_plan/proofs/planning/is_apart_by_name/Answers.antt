use Rattle.std.proofs.Common.{◌∙◌, ap, sym}
use Rattle.std.specs.Borrow.{Bor}
use Rattle.std.specs.Option.{option_map}
use Rattle.sparql_algebra.specs.AlgebraOf.{algebra_of, graph_name_of}
use Rattle.sparql_algebra.specs.declared.operator.GraphName.{GraphName}
use Rattle.query_plan.proofs.KeySteps.{no_name, no_other_name}
use Rattle.query_plan.proofs.planning.is_apart_by_name.Goals as goal

pub returns-in-Some-clause-none : goal.returns-in-Some-clause-none
returns-in-Some-clause-none c = λ named fails key.
    no_other_name c.args.split.now (algebra_of c.args.tree.now) c.in-Some.name.now named
    (sym (ap (option_map (λ (n : Bor GraphName). graph_name_of n.now)) c.in-Some.is) ∙ c.first_graph.ensures.value) (sym c.is_apart.ensures.value ∙ fails) key

pub returns-in-None-clause-none : goal.returns-in-None-clause-none
returns-in-None-clause-none c = λ named fails key.
    no_name c.args.split.now (algebra_of c.args.tree.now) named
    (sym (ap (option_map (λ (n : Bor GraphName). graph_name_of n.now)) c.in-None.is) ∙ c.first_graph.ensures.value) key
