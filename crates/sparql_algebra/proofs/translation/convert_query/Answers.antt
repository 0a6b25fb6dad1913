use Rattle.std.proofs.Common.{◌≡◌, true, false, ap, ◌∙◌}
use Rattle.std.proofs.lemmas.Result.{IfOk-weaker}
use Rattle.sparql_tree.specs.GroupTree.{group_of}
use Rattle.sparql_tree.specs.QueryTree.{query_of}
use Rattle.algebra_model.specs.Algebra.{Distinct}
use Rattle.sparql_algebra.specs.AlgebraOf.{algebra_of}
use Rattle.sparql_algebra.specs.Translation.{translate, translate_group}
use Rattle.sparql_algebra.proofs.ProjectionSteps.{tree_of_parts}
use Rattle.sparql_algebra.proofs.translation.convert_query.Goals as goal

pub returns-then-query : goal.returns-then-query
returns-then-query c =
    let inner = c.in_ok-inner.ensures.operator ∙ ap (λ l. translate_group c.args.names.now (group_of l)) c.deref.ensures.value in
    record {
      tree = IfOk-weaker c.distinct.result
          (λ made. algebra_of made.value ≡ Distinct (algebra_of c.in_ok-projected.projected.value))
          (λ made. algebra_of made.value ≡ (translate (query_of c.args.query.now)).algebra)
          (λ made h. tree_of_parts (query_of c.args.query.now) true c.args.names.now c.in_ok-variables.variables.items (algebra_of c.in_ok-inner.inner.value) (algebra_of made.value)
          c.if-query.true c.requires.names c.in_ok-variables.ensures.numbers inner (h ∙ ap Distinct c.in_ok-projected.ensures.operator))
          c.distinct.ensures.operator;
    }

pub returns-else-query : goal.returns-else-query
returns-else-query c =
    let inner = c.in_ok-inner.ensures.operator ∙ ap (λ l. translate_group c.args.names.now (group_of l)) c.deref.ensures.value in
    record {
      tree = tree_of_parts (query_of c.args.query.now) false c.args.names.now c.in_ok-variables.variables.items (algebra_of c.in_ok-inner.inner.value) (algebra_of c.in_ok-projected.projected.value)
          c.if-query.false c.requires.names c.in_ok-variables.ensures.numbers inner c.in_ok-projected.ensures.operator;
    }
