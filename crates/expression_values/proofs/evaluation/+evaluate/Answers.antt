use Rattle.std.proofs.Common.{rules, ◌≡◌, ◌∙◌, Some, ap, arith, sym, map, option_map, true}
use Rattle.std.proofs.lemmas.Bool.{false≢true}
use Rattle.std.proofs.lemmas.Result.{IfOk-weaker}
use Rattle.rdf_core.specs.Equality.{term_eq}
use Rattle.algebra_model.specs.BooleanValue.{logical_and, logical_not, logical_or}
use Rattle.algebra_model.specs.Comparison.{compares, equal}
use Rattle.algebra_model.specs.Expression.{boolean_result, val, with_values}
use Rattle.expression_values.specs.ExpressionOf.{comparison_of, expression_of}
use Rattle.expression_values.specs.HeldTerm.{held_term, value_term, valued_term}
use Rattle.expression_values.specs.MemberTruth.{member_truth}
use Rattle.expression_values.specs.NoAllocation.{are_borrowed, is_borrowed, takes_none}
use Rattle.expression_values.specs.declared.expression.Expr.{size-Expr}
use Rattle.expression_values.proofs.FoldSteps.{and_deeper, in_stands_for, or_deeper}
use Rattle.expression_values.proofs.LogicSteps.{in_value, member_found, member_step}
use Rattle.expression_values.proofs.MemorySteps.{and_need, and_sides, call_need, call_sides, compare_need, compare_sides, in_need, in_sides, member_borrowed, not_need, or_need, or_sides, same_term_need, same_term_sides}
use Rattle.expression_values.proofs.OperandSteps.{and_moves, or_moves, truth}
use Rattle.expression_values.proofs.ValueSteps.{and_value, call_of_value, compare_value, not_borrowed, not_value, or_value, same_term_value, valued_as}
use Rattle.expression_values.proofs.evaluation.+evaluate.Goals as goal

pub evaluate-returns-in_ok-item-in-In-clause-value : goal.evaluate-returns-in_ok-item-in-In-clause-value
evaluate-returns-in_ok-item-in-In-clause-value g t c =
    let sol = g.R.Lookup.solution c.args.row.now in
    IfOk-weaker c.evaluate_in.result
    (λ value. option_map value_term value ≡ boolean_result (member_truth (option_map held_term c.in_ok-item-in-In.item) (map expression_of c.deref-in-In-2.result.now) sol))
    (λ value. option_map value_term value ≡ val (expression_of c.args.expr.now) sol)
    (λ value h. h ∙ in_value (option_map held_term c.in_ok-item-in-In.item) (expression_of c.in-In.item.value) (expression_of c.args.expr.now)
    (map expression_of c.deref-in-In-2.result.now) (map expression_of c.in-In.list.items) sol
    (c.in_ok-item-in-In.ensures.value ∙ ap (λ e. val (expression_of e) sol) c.deref-in-In.ensures)
    (ap (map expression_of) c.deref-in-In-2.ensures.value)
    (ap expression_of c.in-In.is ∙ in_stands_for c.in-In.item c.in-In.list))
    c.evaluate_in.ensures.value

pub evaluate_member-loop-member-preserved : goal.evaluate_member-loop-member-preserved
evaluate_member-loop-member-preserved g t c =
    let e = c.equal_member-equal.ensures.compared
    ∙ ap (λ v. with_values (option_map valued_term c.args.item.now) v (compares equal))
    (c.in_ok-value.ensures.value ∙ ap (λ y. val (expression_of y) (g.R.Lookup.solution c.args.row.now)) c.member-item.is) in
    rw c.either-found.ensures.value (member_step expression_of c.args.list.now c.loop-member.member-index c.member-item.result
    (option_map valued_term c.args.item.now) (g.R.Lookup.solution c.args.row.now) c.loop-member.found c.equal_member-equal.result
    (member_truth (option_map valued_term c.args.item.now) (map expression_of c.args.list.now) (g.R.Lookup.solution c.args.row.now))
    c.loop-member-test.true e c.loop-member.invariant)

-- a member that is equal makes the whole true, whatever the rest is
pub evaluate_member-returns-then-eq-clause-truth : goal.evaluate_member-returns-then-eq-clause-truth
evaluate_member-returns-then-eq-clause-truth g t c =
    let μ = g.R.Lookup.solution c.args.row.now in
    let item = option_map valued_term c.args.item.now in
    let here = c.equal_member-equal.ensures.compared
    ∙ ap (λ v. with_values item v (compares equal))
    (c.in_ok-value.ensures.value ∙ ap (λ y. val (expression_of y) μ) c.member-item.is) in
    let is : c.equal_member-equal.result ≡ Some true = search rules in
    is ∙ member_found expression_of c.args.list.now c.loop-member.member-index c.member-item.result item μ
    c.loop-member.found c.equal_member-equal.result (member_truth item (map expression_of c.args.list.now) μ)
    c.loop-member-test.true here c.loop-member.invariant is

pub evaluate_or-operands-preserved : goal.evaluate_or-operands-preserved
evaluate_or-operands-preserved g t c =
    let μ = g.R.Lookup.solution c.args.row.now in
    let moved = or_moves c.in-Or.left c.in-Or.right c.operands.found μ
    ∙ ap (λ e. logical_or (truth e μ) c.operands.found) (sym c.in-Or.is) ∙ c.operands.invariant.truth in
    record {
      no_deeper = rw c.deref-rest.ensures (omega (arith, or_deeper c.in-Or.left c.in-Or.right, ap size-Expr c.in-Or.is));
      truth = rw (c.deref-rest.ensures, c.either-found.ensures.value, c.in_ok-evaluate_truth-2.ensures.truth, c.deref.ensures) moved;
      none = λ h. rw c.deref-rest.ensures (or_sides c.in-Or.left c.in-Or.right
          (ap takes_none (sym c.in-Or.is) ∙ c.operands.invariant.none h)).0;
    }

pub evaluate_and-operands-preserved : goal.evaluate_and-operands-preserved
evaluate_and-operands-preserved g t c =
    let μ = g.R.Lookup.solution c.args.row.now in
    let moved = and_moves c.in-And.left c.in-And.right c.operands.found μ
    ∙ ap (λ e. logical_and (truth e μ) c.operands.found) (sym c.in-And.is) ∙ c.operands.invariant.truth in
    record {
      no_deeper = rw c.deref-rest.ensures (omega (arith, and_deeper c.in-And.left c.in-And.right, ap size-Expr c.in-And.is));
      truth = rw (c.deref-rest.ensures, c.both-found.ensures.value, c.in_ok-evaluate_truth-2.ensures.truth, c.deref.ensures) moved;
      none = λ h. rw c.deref-rest.ensures (and_sides c.in-And.left c.in-And.right
          (ap takes_none (sym c.in-And.is) ∙ c.operands.invariant.none h)).0;
    }

pub evaluate_or-returns-in_err-evaluate_truth-clause-takes_none : goal.evaluate_or-returns-in_err-evaluate_truth-clause-takes_none
evaluate_or-returns-in_err-evaluate_truth-clause-takes_none g t c = λ h.
    absurd (false≢true (c.in_err-evaluate_truth.ensures.takes_none (c.operands.invariant.none h)))

pub evaluate_or-returns-in_err-evaluate_truth-2-clause-takes_none : goal.evaluate_or-returns-in_err-evaluate_truth-2-clause-takes_none
evaluate_or-returns-in_err-evaluate_truth-2-clause-takes_none g t c = λ h.
    let whole = ap takes_none (sym c.in-Or.is) ∙ c.operands.invariant.none h in
    let right = ap takes_none c.deref.ensures ∙ (or_sides c.in-Or.left c.in-Or.right whole).1 in
    absurd (false≢true (c.in_err-evaluate_truth-2.ensures.takes_none right))

pub evaluate_and-returns-in_err-evaluate_truth-clause-takes_none : goal.evaluate_and-returns-in_err-evaluate_truth-clause-takes_none
evaluate_and-returns-in_err-evaluate_truth-clause-takes_none g t c = λ h.
    absurd (false≢true (c.in_err-evaluate_truth.ensures.takes_none (c.operands.invariant.none h)))

pub evaluate_and-returns-in_err-evaluate_truth-2-clause-takes_none : goal.evaluate_and-returns-in_err-evaluate_truth-2-clause-takes_none
evaluate_and-returns-in_err-evaluate_truth-2-clause-takes_none g t c = λ h.
    let whole = ap takes_none (sym c.in-And.is) ∙ c.operands.invariant.none h in
    let right = ap takes_none c.deref.ensures ∙ (and_sides c.in-And.left c.in-And.right whole).1 in
    absurd (false≢true (c.in_err-evaluate_truth-2.ensures.takes_none right))

pub evaluate_member-returns-in_err-value-clause-are_borrowed : goal.evaluate_member-returns-in_err-value-clause-are_borrowed
evaluate_member-returns-in_err-value-clause-are_borrowed g t c = λ h.
    let here = ap is_borrowed c.member-item.is
    ∙ member_borrowed c.args.list.now c.loop-member.member-index c.member-item.result c.loop-member-test.true h in
    absurd (false≢true (c.in_err-value.ensures.is_borrowed here))

-- the evaluation of an expression that allocates nothing does not fail
pub evaluate-returns-in_err-right-in-Or-clause-takes_none : goal.evaluate-returns-in_err-right-in-Or-clause-takes_none
evaluate-returns-in_err-right-in-Or-clause-takes_none g t c = λ h.
    absurd (false≢true (c.in_err-right-in-Or.ensures.takes_none (ap takes_none c.deref.ensures ∙ (or_sides c.in-Or.left c.in-Or.right (ap takes_none (sym c.in-Or.is) ∙ h)).1)))

pub evaluate-returns-in_ok-right-in-Or-clause-takes_none : goal.evaluate-returns-in_ok-right-in-Or-clause-takes_none
evaluate-returns-in_ok-right-in-Or-clause-takes_none g t c = λ h.
    c.evaluate_either.ensures.takes_none (ap takes_none c.deref-in-Or.ensures ∙ (or_sides c.in-Or.left c.in-Or.right (ap takes_none (sym c.in-Or.is) ∙ h)).0)

pub evaluate-returns-in_err-right-in-And-clause-takes_none : goal.evaluate-returns-in_err-right-in-And-clause-takes_none
evaluate-returns-in_err-right-in-And-clause-takes_none g t c = λ h.
    absurd (false≢true (c.in_err-right-in-And.ensures.takes_none (ap takes_none c.deref-in-And.ensures ∙ (and_sides c.in-And.left c.in-And.right (ap takes_none (sym c.in-And.is) ∙ h)).1)))

pub evaluate-returns-in_ok-right-in-And-clause-takes_none : goal.evaluate-returns-in_ok-right-in-And-clause-takes_none
evaluate-returns-in_ok-right-in-And-clause-takes_none g t c = λ h.
    c.evaluate_both.ensures.takes_none (ap takes_none c.deref-in-And-2.ensures ∙ (and_sides c.in-And.left c.in-And.right (ap takes_none (sym c.in-And.is) ∙ h)).0)

pub evaluate-returns-in_err-left-in-Compare-clause-takes_none : goal.evaluate-returns-in_err-left-in-Compare-clause-takes_none
evaluate-returns-in_err-left-in-Compare-clause-takes_none g t c = λ h.
    absurd (false≢true (c.in_err-left-in-Compare.ensures.is_borrowed (ap is_borrowed c.deref-in-Compare.ensures ∙ (compare_sides c.in-Compare.operator c.in-Compare.left c.in-Compare.right (ap takes_none (sym c.in-Compare.is) ∙ h)).0)))

pub evaluate-returns-in_ok-left-in-Compare-clause-takes_none : goal.evaluate-returns-in_ok-left-in-Compare-clause-takes_none
evaluate-returns-in_ok-left-in-Compare-clause-takes_none g t c = λ h.
    c.evaluate_comparison.ensures.is_borrowed (ap is_borrowed c.deref-in-Compare-2.ensures ∙ (compare_sides c.in-Compare.operator c.in-Compare.left c.in-Compare.right (ap takes_none (sym c.in-Compare.is) ∙ h)).1)

pub evaluate-returns-in_err-item-in-In-clause-takes_none : goal.evaluate-returns-in_err-item-in-In-clause-takes_none
evaluate-returns-in_err-item-in-In-clause-takes_none g t c = λ h.
    absurd (false≢true (c.in_err-item-in-In.ensures.is_borrowed (ap is_borrowed c.deref-in-In.ensures ∙ (in_sides c.in-In.item c.in-In.list (ap takes_none (sym c.in-In.is) ∙ h)).0)))

pub evaluate-returns-in_ok-item-in-In-clause-takes_none : goal.evaluate-returns-in_ok-item-in-In-clause-takes_none
evaluate-returns-in_ok-item-in-In-clause-takes_none g t c = λ h.
    c.evaluate_in.ensures.are_borrowed (ap are_borrowed c.deref-in-In-2.ensures.value ∙ (in_sides c.in-In.item c.in-In.list (ap takes_none (sym c.in-In.is) ∙ h)).1)

pub evaluate-returns-in-Call-clause-takes_none : goal.evaluate-returns-in-Call-clause-takes_none
evaluate-returns-in-Call-clause-takes_none g t c = λ h.
    let sides = call_sides c.in-Call.function c.in-Call.argument (ap takes_none (sym c.in-Call.is) ∙ h) in
    c.evaluate_call.ensures.takes_none (ap is_borrowed c.deref-in-Call.ensures ∙ sides.0) sides.1

pub evaluate-returns-in_err-left-in-SameTerm-clause-takes_none : goal.evaluate-returns-in_err-left-in-SameTerm-clause-takes_none
evaluate-returns-in_err-left-in-SameTerm-clause-takes_none g t c = λ h.
    absurd (false≢true (c.in_err-left-in-SameTerm.ensures.is_borrowed (ap is_borrowed c.deref-in-SameTerm.ensures ∙ (same_term_sides c.in-SameTerm.left c.in-SameTerm.right (ap takes_none (sym c.in-SameTerm.is) ∙ h)).0)))

pub evaluate-returns-in_ok-left-in-SameTerm-clause-takes_none : goal.evaluate-returns-in_ok-left-in-SameTerm-clause-takes_none
evaluate-returns-in_ok-left-in-SameTerm-clause-takes_none g t c = λ h.
    c.evaluate_same_term.ensures.is_borrowed (ap is_borrowed c.deref-in-SameTerm-2.ensures ∙ (same_term_sides c.in-SameTerm.left c.in-SameTerm.right (ap takes_none (sym c.in-SameTerm.is) ∙ h)).1)

pub evaluate-returns-in-Not-clause-takes_none : goal.evaluate-returns-in-Not-clause-takes_none
evaluate-returns-in-Not-clause-takes_none g t c = λ h.
    c.evaluate_not.ensures.takes_none (ap takes_none c.deref-in-Not.ensures ∙ sym (ap (λ n. n.takes_none) (not_need c.in-Not.inner)) ∙ ap takes_none (sym c.in-Not.is) ∙ h)

pub evaluate-returns-in_ok-right-in-Or-clause-value : goal.evaluate-returns-in_ok-right-in-Or-clause-value
evaluate-returns-in_ok-right-in-Or-clause-value g t c =
    let μ = g.R.Lookup.solution c.args.row.now in
    valued_as c.evaluate_either.result _ _
    (or_value c.in-Or.left c.in-Or.right c.args.expr.now _ _ μ c.in-Or.is c.deref-in-Or.ensures (c.in_ok-right-in-Or.ensures.truth ∙ ap (λ e. truth e μ) c.deref.ensures))
    c.evaluate_either.ensures.value

pub evaluate-returns-in_ok-right-in-And-clause-value : goal.evaluate-returns-in_ok-right-in-And-clause-value
evaluate-returns-in_ok-right-in-And-clause-value g t c =
    let μ = g.R.Lookup.solution c.args.row.now in
    valued_as c.evaluate_both.result _ _
    (and_value c.in-And.left c.in-And.right c.args.expr.now _ _ μ c.in-And.is c.deref-in-And-2.ensures (c.in_ok-right-in-And.ensures.truth ∙ ap (λ e. truth e μ) c.deref-in-And.ensures))
    c.evaluate_both.ensures.value

pub evaluate-returns-in-Not-clause-value : goal.evaluate-returns-in-Not-clause-value
evaluate-returns-in-Not-clause-value g t c =
    valued_as c.evaluate_not.result _ _
    (not_value c.in-Not.inner c.args.expr.now _ (g.R.Lookup.solution c.args.row.now) c.in-Not.is c.deref-in-Not.ensures)
    c.evaluate_not.ensures.value

pub evaluate-returns-in_ok-left-in-Compare-clause-value : goal.evaluate-returns-in_ok-left-in-Compare-clause-value
evaluate-returns-in_ok-left-in-Compare-clause-value g t c =
    let μ = g.R.Lookup.solution c.args.row.now in
    valued_as c.evaluate_comparison.result _ _
    (compare_value c.in-Compare.operator c.in-Compare.left c.in-Compare.right c.args.expr.now _ _ μ c.in-Compare.is
    (c.in_ok-left-in-Compare.ensures.value ∙ ap (λ e. val (expression_of e) μ) c.deref-in-Compare.ensures) c.deref-in-Compare-2.ensures)
    c.evaluate_comparison.ensures.value

pub evaluate-returns-in_ok-left-in-SameTerm-clause-value : goal.evaluate-returns-in_ok-left-in-SameTerm-clause-value
evaluate-returns-in_ok-left-in-SameTerm-clause-value g t c =
    let μ = g.R.Lookup.solution c.args.row.now in
    valued_as c.evaluate_same_term.result _ _
    (same_term_value c.in-SameTerm.left c.in-SameTerm.right c.args.expr.now _ _ μ c.in-SameTerm.is
    (c.in_ok-left-in-SameTerm.ensures.value ∙ ap (λ e. val (expression_of e) μ) c.deref-in-SameTerm.ensures) c.deref-in-SameTerm-2.ensures)
    c.evaluate_same_term.ensures.value

pub evaluate-returns-in-Call-clause-value : goal.evaluate-returns-in-Call-clause-value
evaluate-returns-in-Call-clause-value g t c =
    valued_as c.evaluate_call.result _ _
    (call_of_value c.in-Call.function c.in-Call.argument c.args.expr.now _ (g.R.Lookup.solution c.args.row.now) c.in-Call.is c.deref-in-Call.ensures)
    c.evaluate_call.ensures.value

pub evaluate-returns-in_err-right-in-Or-clause-held : goal.evaluate-returns-in_err-right-in-Or-clause-held
evaluate-returns-in_err-right-in-Or-clause-held g t c = λ h. absurd (not_borrowed c.args.expr.now _ _ c.in-Or.is (or_need c.in-Or.left c.in-Or.right) h)

pub evaluate-returns-in_ok-right-in-Or-clause-held : goal.evaluate-returns-in_ok-right-in-Or-clause-held
evaluate-returns-in_ok-right-in-Or-clause-held g t c = λ h. absurd (not_borrowed c.args.expr.now _ _ c.in-Or.is (or_need c.in-Or.left c.in-Or.right) h)

pub evaluate-returns-in_err-right-in-And-clause-held : goal.evaluate-returns-in_err-right-in-And-clause-held
evaluate-returns-in_err-right-in-And-clause-held g t c = λ h. absurd (not_borrowed c.args.expr.now _ _ c.in-And.is (and_need c.in-And.left c.in-And.right) h)

pub evaluate-returns-in_ok-right-in-And-clause-held : goal.evaluate-returns-in_ok-right-in-And-clause-held
evaluate-returns-in_ok-right-in-And-clause-held g t c = λ h. absurd (not_borrowed c.args.expr.now _ _ c.in-And.is (and_need c.in-And.left c.in-And.right) h)

pub evaluate-returns-in_err-left-in-Compare-clause-held : goal.evaluate-returns-in_err-left-in-Compare-clause-held
evaluate-returns-in_err-left-in-Compare-clause-held g t c = λ h. absurd (not_borrowed c.args.expr.now _ _ c.in-Compare.is (compare_need c.in-Compare.operator c.in-Compare.left c.in-Compare.right) h)

pub evaluate-returns-in_ok-left-in-Compare-clause-held : goal.evaluate-returns-in_ok-left-in-Compare-clause-held
evaluate-returns-in_ok-left-in-Compare-clause-held g t c = λ h. absurd (not_borrowed c.args.expr.now _ _ c.in-Compare.is (compare_need c.in-Compare.operator c.in-Compare.left c.in-Compare.right) h)

pub evaluate-returns-in_err-item-in-In-clause-held : goal.evaluate-returns-in_err-item-in-In-clause-held
evaluate-returns-in_err-item-in-In-clause-held g t c = λ h. absurd (not_borrowed c.args.expr.now _ _ c.in-In.is (in_need c.in-In.item c.in-In.list) h)

pub evaluate-returns-in_ok-item-in-In-clause-held : goal.evaluate-returns-in_ok-item-in-In-clause-held
evaluate-returns-in_ok-item-in-In-clause-held g t c = λ h. absurd (not_borrowed c.args.expr.now _ _ c.in-In.is (in_need c.in-In.item c.in-In.list) h)

pub evaluate-returns-in_err-left-in-SameTerm-clause-held : goal.evaluate-returns-in_err-left-in-SameTerm-clause-held
evaluate-returns-in_err-left-in-SameTerm-clause-held g t c = λ h. absurd (not_borrowed c.args.expr.now _ _ c.in-SameTerm.is (same_term_need c.in-SameTerm.left c.in-SameTerm.right) h)

pub evaluate-returns-in_ok-left-in-SameTerm-clause-held : goal.evaluate-returns-in_ok-left-in-SameTerm-clause-held
evaluate-returns-in_ok-left-in-SameTerm-clause-held g t c = λ h. absurd (not_borrowed c.args.expr.now _ _ c.in-SameTerm.is (same_term_need c.in-SameTerm.left c.in-SameTerm.right) h)

pub evaluate-returns-in-Not-clause-held : goal.evaluate-returns-in-Not-clause-held
evaluate-returns-in-Not-clause-held g t c = λ h. absurd (not_borrowed c.args.expr.now _ _ c.in-Not.is (not_need c.in-Not.inner) h)

pub evaluate-returns-in-Call-clause-held : goal.evaluate-returns-in-Call-clause-held
evaluate-returns-in-Call-clause-held g t c = λ h. absurd (not_borrowed c.args.expr.now _ _ c.in-Call.is (call_need c.in-Call.function c.in-Call.argument) h)

pub evaluate_either-returns-clause-value : goal.evaluate_either-returns-clause-value
evaluate_either-returns-clause-value g t c = c.boolean_value.ensures.value ∙ ap boolean_result c.in_ok-evaluate_or.ensures.truth

pub evaluate_both-returns-clause-value : goal.evaluate_both-returns-clause-value
evaluate_both-returns-clause-value g t c = c.boolean_value.ensures.value ∙ ap boolean_result c.in_ok-evaluate_and.ensures.truth

pub evaluate_not-returns-clause-value : goal.evaluate_not-returns-clause-value
evaluate_not-returns-clause-value g t c = c.boolean_value.ensures.value ∙ ap boolean_result (c.negated.ensures.value ∙ ap logical_not c.in_ok-evaluate_truth.ensures.truth)

pub evaluate_in-returns-clause-value : goal.evaluate_in-returns-clause-value
evaluate_in-returns-clause-value g t c = c.boolean_value.ensures.value
    ∙ ap boolean_result (c.in_ok-evaluate_member.ensures.truth
    ∙ ap (λ x. member_truth x (map expression_of c.args.list.now) (g.R.Lookup.solution c.args.row.now)) c.valued-item_value.ensures.value)

pub evaluate_comparison-returns-clause-value : goal.evaluate_comparison-returns-clause-value
evaluate_comparison-returns-clause-value g t c = c.boolean_value.ensures.value
    ∙ ap boolean_result (c.compare_values.ensures.compared
    ∙ ap (λ v. with_values (option_map held_term c.args.left) v (compares (comparison_of c.args.operator))) c.in_ok-right.ensures.value)

pub evaluate_same_term-returns-clause-value : goal.evaluate_same_term-returns-clause-value
evaluate_same_term-returns-clause-value g t c = c.boolean_value.ensures.value
    ∙ ap boolean_result (c.same_values.ensures.same
    ∙ ap (λ v. with_values (option_map held_term c.args.left) v (λ s t. Some (term_eq s t))) c.in_ok-right.ensures.value)
