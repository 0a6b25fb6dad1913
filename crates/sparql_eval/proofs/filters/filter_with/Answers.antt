use Rattle.std.proofs.Common.{◌≡◌}
use Rattle.std.proofs.Common.{filter}
use Rattle.algebra_model.specs.Expression.{holds}
use Rattle.expression_values.specs.ExpressionOf.{expression_of}
use Rattle.row_pieces.specs.declared.fault.EvalFault.TheVariants.{Memory}
use Rattle.sparql_eval.specs.Evaluated.{IsEvaluated, solutions_of}
use Rattle.sparql_eval.proofs.ReturnSteps.{returned, faulted}
use Rattle.sparql_eval.proofs.filters.filter_with.Goals as goal

pub returns-clause-evaluated : goal.returns-clause-evaluated
returns-clause-evaluated g c =
    returned c.filtered-made.result c.with_dict.result
    (λ m t. IsEvaluated c.args.dict c.args.rows.now.width (filter (holds (expression_of c.args.condition.now)) (solutions_of c.args.dict c.args.rows.now)) m t) c.args.dict
    c.with_dict.ensures.rows c.with_dict.ensures.same_dict c.filtered-made.ensures.evaluated

pub returns-clause-alone : goal.returns-clause-alone
returns-clause-alone g c = λ h. faulted c.filtered-made.result c.with_dict.result (λ fault. fault ≡ Memory) c.with_dict.ensures.fault (c.filtered-made.ensures.alone h)

pub returns-clause-one_worker : goal.returns-clause-one_worker
returns-clause-one_worker g c = λ h. faulted c.filtered-made.result c.with_dict.result (λ fault. fault ≡ Memory) c.with_dict.ensures.fault (c.filtered-made.ensures.one_worker h)
