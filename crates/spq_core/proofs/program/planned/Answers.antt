use Rattle.std.proofs.Common.{Ok}
use Rattle.std.proofs.lemmas.Result.{err_from_is_err_and}
use Rattle.sparql_tree.specs.QueryTree.{query_of}
use Rattle.sparql_algebra.specs.AlgebraOf.{algebra_of}
use Rattle.spq_core.specs.Composing.{IsNeededFrom}
use Rattle.spq_core.specs.Output.{select}
use Rattle.spq_core.proofs.ComposingSteps.{loaded, not_loaded, part_needed}
use Rattle.spq_core.proofs.DocumentSteps.{bad_select, composed_select}
use Rattle.spq_core.proofs.program.planned.Goals as goal

pub returns-in_err-store-clause-composing : goal.returns-in_err-store-clause-composing
returns-in_err-store-clause-composing g c =
    let p = err_from_is_err_and c.from_residual.result c.from_residual.ensures.1 in
    let query = query_of c.args.valid.now.query.now in
    rw (p.1, p.2) (not_loaded g.S.Source.left g.S.Source.failures (IsNeededFrom (algebra_of c.args.plan.now.tree)) (select c.args.valid.now.text.now) _ _ _ _ (query, c.requires.valid) (bad_select _ _ c.args.valid.now.text.now query c.requires.valid) c.in_err-store.ensures.loading)

pub returns-in-Ok-clause-composing : goal.returns-in-Ok-clause-composing
returns-in-Ok-clause-composing g c =
    let query = query_of c.args.valid.now.query.now in
    let plan = c.args.plan.now in
    let A = algebra_of plan.tree in
    loaded g.S.Source.left g.S.Source.failures (IsNeededFrom A) (select c.args.valid.now.text.now) _ _ _ c.in_ok-store.store (query, c.requires.valid) (part_needed A _ _ c.in_ok-store.store c.in_ok-store.ensures.loading.loaded) c.in_ok-store.ensures.loading (Ok c.in-Ok.blocks)
    (composed_select c.needed_quads_suffice.ensures.law c.a_bag_has_one_sorted_list.ensures.same _ _ c.args.valid.now.text.now query plan.names.items A c.in_ok-store.store _ c.requires.valid c.requires.names c.requires.tree plan.within c.in_ok-store.ensures.loading.loaded c.in-Ok.ensures.answer) tt

pub returns-in-Err-clause-cause : goal.returns-in-Err-clause-cause
returns-in-Err-clause-cause g c = c.run_fault.ensures.cause (g.S.Source.left c.args.reader.now)

pub returns-in_err-store-clause-cause : goal.returns-in_err-store-clause-cause
returns-in_err-store-clause-cause g c =
    let p = err_from_is_err_and c.from_residual.result c.from_residual.ensures.1 in
    rw (p.1, p.2) c.in_err-store.ensures.cause
