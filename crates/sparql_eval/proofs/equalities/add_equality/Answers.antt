use Rattle.std.proofs.Common.{◌≡◌, sym, ap, ◌∙◌, subst}
use Rattle.std.proofs.lemmas.Result.{on_ok_weaker}
use Rattle.algebra_model.specs.Comparison.{equal}
use Rattle.algebra_model.specs.Expression.{comparison, same_term}
use Rattle.expression_values.specs.ExpressionOf.{comparison_of, expression_of}
use Rattle.term_values.proofs.EqualityLaws.{equal_terms_meet}
use Rattle.sparql_eval.specs.Required.{Implies}
use Rattle.sparql_eval.proofs.RequiredSteps.{compare_denotes, same_denotes, equal_required, same_required}
use Rattle.sparql_eval.proofs.equalities.add_equality.Goals as goal

pub returns-in-Equal : goal.returns-in-Equal
returns-in-Equal c =
    let it = c.in-Compare in
    let l = c.deref.result.now in
    let r = c.deref-in-Equal.result.now in
    let is : expression_of c.args.operand.now ≡ comparison equal (expression_of l) (expression_of r) =
    ap expression_of it.is ∙ compare_denotes it.operator it.left it.right
    ∙ (λ i. comparison (comparison_of (c.in-Equal.is i)) (expression_of ((sym c.deref.ensures) i)) (expression_of ((sym c.deref-in-Equal.ensures) i))) in
    record {
      required = on_ok_weaker c.add_operands.result (λ k e h. k e (equal_required equal_terms_meet e (expression_of l) (expression_of r) (subst (Implies e) is h))) c.add_operands.ensures.required;
    }

pub returns-in-SameTerm : goal.returns-in-SameTerm
returns-in-SameTerm c =
    let it = c.in-SameTerm in
    let l = c.deref-in-SameTerm.result.now in
    let r = c.deref-in-SameTerm-2.result.now in
    let is : expression_of c.args.operand.now ≡ same_term (expression_of l) (expression_of r) =
    ap expression_of it.is ∙ same_denotes it.left it.right ∙ (λ i. same_term (expression_of ((sym c.deref-in-SameTerm.ensures) i)) (expression_of ((sym c.deref-in-SameTerm-2.ensures) i))) in
    record {
      required = on_ok_weaker c.add_operands-in-SameTerm.result (λ k e h. k e (same_required e (expression_of l) (expression_of r) (subst (Implies e) is h))) c.add_operands-in-SameTerm.ensures.required;
    }
