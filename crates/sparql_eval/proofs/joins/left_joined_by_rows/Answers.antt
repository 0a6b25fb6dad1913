use Rattle.std.proofs.Common.{◌≡◌, nat_eq}
use Rattle.rdf_core.proofs.TermLaws.{term_eq}
use Rattle.algebra_model.specs.Bag.{IsSameBag}
use Rattle.algebra_model.specs.Operators.{left_join}
use Rattle.algebra_model.specs.Expression.{holds}
use Rattle.sparql_eval.proofs.ReadingLaws.{read_by}
use Rattle.sparql_eval.specs.Evaluated.{IsEvaluated, solutions_of}
use Rattle.sparql_eval.proofs.ReturnSteps.{IfOk-both}
use Rattle.expression_values.specs.ExpressionOf.{expression_of}
use Rattle.sparql_eval.proofs.JoinSteps.{left_joined, rows_pass}
use Rattle.sparql_eval.proofs.joins.left_joined_by_rows.Goals as goal

pub left_join-requires-clause-left_known : goal.left_join-requires-clause-left_known
left_join-requires-clause-left_known g c κs within = rows_pass c.args.dict.now c.args.left.now.rows c.requires.known_left

pub left_join-requires-clause-right_known : goal.left_join-requires-clause-right_known
left_join-requires-clause-right_known g c κs within = rows_pass c.args.dict.now c.args.right.now.rows c.requires.known_right

pub returns-clause-evaluated : goal.returns-clause-evaluated
returns-clause-evaluated g c =
    let terms = c.args.dict.now in
    IfOk-both c.left_join.result (λ m. m.width ≡ c.args.left.now.width) (λ m. IsSameBag m.rows (left_join nat_eq (λ μ. holds (expression_of c.args.condition.now) (read_by c.args.dict.now μ)) c.args.left.now.rows c.args.right.now.rows))
    (λ m. IsEvaluated terms c.args.left.now.width (left_join term_eq (holds (expression_of c.args.condition.now)) (solutions_of terms c.args.left.now) (solutions_of terms c.args.right.now)) m terms)
    (λ m wide bag. left_joined terms c.len-distinct.ensures.distinct c.args.left.now c.args.right.now m c.requires.known_left c.requires.known_right wide (expression_of c.args.condition.now) bag)
    c.left_join.ensures.width c.left_join.ensures.rows
