use Rattle.std.proofs.Common.{◌≡◌}
use Rattle.rdf_core.proofs.TermLaws.{term_eq}
use Rattle.algebra_model.specs.Expression.{holds}
use Rattle.algebra_model.specs.Operators.{left_join}
use Rattle.expression_values.specs.ExpressionOf.{expression_of}
use Rattle.row_pieces.specs.declared.fault.EvalFault.TheVariants.{Memory}
use Rattle.sparql_eval.specs.Evaluated.{IsEvaluated, solutions_of}
use Rattle.sparql_eval.proofs.ReturnSteps.{returned, faulted}
use Rattle.sparql_eval.proofs.joins.left_join_with.Goals as goal

pub returns-clause-evaluated : goal.returns-clause-evaluated
returns-clause-evaluated g c =
    returned c.left_joined-made.result c.with_dict.result
    (λ m t. IsEvaluated c.args.dict c.args.left.now.width (left_join term_eq (holds (expression_of c.args.condition.now)) (solutions_of c.args.dict c.args.left.now) (solutions_of c.args.dict c.args.right.now)) m t) c.args.dict
    c.with_dict.ensures.rows c.with_dict.ensures.same_dict c.left_joined-made.ensures.evaluated

pub returns-clause-alone : goal.returns-clause-alone
returns-clause-alone g c = λ h. faulted c.left_joined-made.result c.with_dict.result (λ fault. fault ≡ Memory) c.with_dict.ensures.fault (c.left_joined-made.ensures.alone h)

pub returns-clause-one_worker : goal.returns-clause-one_worker
returns-clause-one_worker g c = λ h. faulted c.left_joined-made.result c.with_dict.result (λ fault. fault ≡ Memory) c.with_dict.ensures.fault (c.left_joined-made.ensures.one_worker h)
