use Rattle.std.proofs.Common.{filter}
use Rattle.std.proofs.lemmas.Result.{IfOk-weaker}
use Rattle.algebra_model.specs.Expression.{holds}
use Rattle.row_pieces.specs.Pieces.{AreRowsOf}
use Rattle.sparql_eval.specs.Evaluated.{IsEvaluated, solutions_of}
use Rattle.sparql_eval.specs.FilterParts.{filter_parts}
use Rattle.expression_values.specs.ExpressionOf.{expression_of}
use Rattle.sparql_eval.proofs.FilterSteps.{filtered}
use Rattle.sparql_eval.proofs.ReadingLaws.{rows_known_at}
use Rattle.sparql_eval.proofs.filters.filtered.Goals as goal

pub invariant_of-work : goal.invariant_of-work
invariant_of-work g c = record { known = rows_known_at c.args.dict.now c.args.rows.now.rows c.requires.known }

pub returns-clause-evaluated : goal.returns-clause-evaluated
returns-clause-evaluated g c =
    let terms = c.args.dict.now in
    let e = expression_of c.args.condition.now in
    let rows = c.args.rows.now in
    IfOk-weaker c.over_pieces.result (λ m. AreRowsOf rows.width (filter_parts terms e rows.rows) m)
    (λ m. IsEvaluated terms rows.width (filter (holds e) (solutions_of terms rows)) m terms)
    (λ m h. filtered terms e rows m c.requires.known h)
    c.over_pieces.ensures.rows
