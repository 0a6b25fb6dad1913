use Rattle.std.proofs.Common.{◌≡◌}
use Rattle.algebra_model.specs.Expression.{val}
use Rattle.algebra_model.specs.Operators.{extend}
use Rattle.expression_values.specs.ExpressionOf.{expression_of}
use Rattle.sparql_eval.specs.Computed.{IsValue, TakesOnly}
use Rattle.sparql_eval.proofs.ReturnSteps.{on_ok_so}
use Rattle.row_pieces.specs.declared.fault.EvalFault.TheVariants.{Memory}
use Rattle.sparql_eval.specs.Evaluated.{IsEvaluated, solutions_of}
use Rattle.sparql_eval.proofs.ReturnSteps.{returned, faulted}
use Rattle.sparql_eval.proofs.extensions.extend_with.Goals as goal

pub returns-clause-evaluated : goal.returns-clause-evaluated
returns-clause-evaluated g c =
    returned c.extended-made.result c.with_dict.result
    (λ m t. IsEvaluated c.args.dict c.args.rows.now.width (extend c.args.variable (val (expression_of c.args.expression.now)) (solutions_of c.args.dict c.args.rows.now)) m t) c.extended-made.new.dict
    c.with_dict.ensures.rows c.with_dict.ensures.same_dict c.extended-made.ensures.evaluated

pub returns-clause-needed : goal.returns-clause-needed
returns-clause-needed g c =
    returned c.extended-made.result c.with_dict.result (λ m t. TakesOnly (IsValue (val (expression_of c.args.expression.now)) (solutions_of c.args.dict c.args.rows.now)) c.args.dict t) c.extended-made.new.dict
    c.with_dict.ensures.rows c.with_dict.ensures.same_dict (on_ok_so _ c.extended-made.result c.extended-made.ensures.needed)

pub returns-clause-alone : goal.returns-clause-alone
returns-clause-alone g c = λ h. faulted c.extended-made.result c.with_dict.result (λ fault. fault ≡ Memory) c.with_dict.ensures.fault (c.extended-made.ensures.alone h)

pub returns-clause-one_worker : goal.returns-clause-one_worker
returns-clause-one_worker g c = λ h. faulted c.extended-made.result c.with_dict.result (λ fault. fault ≡ Memory) c.with_dict.ensures.fault (c.extended-made.ensures.one_worker h)
