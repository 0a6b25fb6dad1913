use Rattle.std.proofs.Common.{ℕ, List, subst}
use Rattle.algebra_model.specs.Solution.{Solution}
use Rattle.expression_values.specs.ExpressionOf.{expression_of}
use Rattle.row_pieces.proofs.PieceLaws.{piece-between}
use Rattle.sparql_eval.specs.Values.{ArePieceValues}
use Rattle.sparql_eval.proofs.values.ValueJobJob.run.Goals as goal

pub returns-in-Ok-clause-answers : goal.returns-in-Ok-clause-answers
returns-in-Ok-clause-answers c =
    let terms = c.args.self.now.dict.now in
    let e = expression_of c.args.self.now.expression.now in
    let ends = c.piece_ends-from in
    subst (λ (ps : List (Solution ℕ)). ArePieceValues terms e ps c.in-Ok.values)
    (piece-between c.args.self.now.size c.args.i c.len.result ends.result.0 ends.result.1 c.args.self.now.rows.now.rows c.len.ensures.value ends.ensures.begin ends.ensures.end) c.in-Ok.ensures.values
