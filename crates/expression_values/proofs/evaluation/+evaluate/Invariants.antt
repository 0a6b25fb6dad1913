use Rattle.std.proofs.Common.{◌≡◌, ◌≤◌, drop, map, option_map, true}
use Rattle.algebra_model.specs.BooleanValue.{logical_and, logical_or}
use Rattle.expression_values.specs.ExpressionOf.{expression_of}
use Rattle.expression_values.specs.HeldTerm.{valued_term}
use Rattle.expression_values.specs.MemberTruth.{member_truth}
use Rattle.expression_values.specs.NoAllocation.{takes_none}
use Rattle.expression_values.specs.declared.expression.Expr.{size-Expr}
use Rattle.expression_values.proofs.OperandSteps.{truth}
use Rattle.expression_values.proofs.evaluation.+evaluate.Given as goal

abbrev pub invariant-evaluate_member-loop-member : goal.invariant-evaluate_member-loop-member
invariant-evaluate_member-loop-member g l =
    logical_or l.found (member_truth (option_map valued_term l.item) (map expression_of (drop l.member-index l.list)) (g.R.Lookup.solution l.row))
    ≡ member_truth (option_map valued_term l.item) (map expression_of l.list) (g.R.Lookup.solution l.row)

abbrev pub invariant-evaluate_or-operands : goal.invariant-evaluate_or-operands
invariant-evaluate_or-operands g l =
    let μ = g.R.Lookup.solution l.row in
    record {
      no_deeper : size-Expr l.rest ≤ size-Expr l.left;
      truth : logical_or (truth l.rest μ) l.found ≡ logical_or (truth l.left μ) l.initial.found;
      none : takes_none l.left ≡ true → takes_none l.rest ≡ true;
    }

abbrev pub decreases-evaluate_or-operands : goal.decreases-evaluate_or-operands
decreases-evaluate_or-operands g l = size-Expr l.rest

abbrev pub invariant-evaluate_and-operands : goal.invariant-evaluate_and-operands
invariant-evaluate_and-operands g l =
    let μ = g.R.Lookup.solution l.row in
    record {
      no_deeper : size-Expr l.rest ≤ size-Expr l.left;
      truth : logical_and (truth l.rest μ) l.found ≡ logical_and (truth l.left μ) l.initial.found;
      none : takes_none l.left ≡ true → takes_none l.rest ≡ true;
    }

abbrev pub decreases-evaluate_and-operands : goal.decreases-evaluate_and-operands
decreases-evaluate_and-operands g l = size-Expr l.rest
