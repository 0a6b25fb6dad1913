use Rattle.dict_core.specs.NumQuad.{quads_at}
use Rattle.sparql_tree.specs.QueryTree.{query_of}
use Rattle.sparql_algebra.specs.AlgebraOf.{algebra_of}
use Rattle.sparql_eval.specs.Evaluated.{solutions_of}
use Rattle.spq_core.proofs.AnsweringSteps.{printed_blocks}
use Rattle.spq_core.proofs.answering.answer_plan.Goals as goal

pub returns-in-Ok-printed-clause-answer : goal.returns-in-Ok-printed-clause-answer
returns-in-Ok-printed-clause-answer g c =
    let store = c.args.store in
    let parts = c.into_parts-dict in
    printed_blocks c.a_bag_has_one_sorted_list.ensures.same (query_of c.args.query.now) (quads_at parts.result.0 parts.result.1) (quads_at store.dict store.index) c.args.plan.now.names.items
    (algebra_of c.args.plan.now.tree) (solutions_of c.in-Ok.dict c.in-Ok.rows) c.requires.names c.requires.tree c.args.plan.now.within c.in-Ok.ensures.evaluated.bag
    (λ i. quads_at (parts.ensures.dict i) (parts.ensures.index i)) c.in-Ok-printed.blocks.items c.in-Ok-printed.ensures.json
