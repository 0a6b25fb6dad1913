use Rattle.std.proofs.Common.{rules, arith, ◌<◌, ℕ, length, subst}
use Rattle.expression_values.specs.ExpressionOf.{expression_of}
use Rattle.row_pieces.proofs.PieceLaws.{enough, one-piece}
use Rattle.sparql_eval.proofs.ReadingLaws.{rows_known_at}
use Rattle.sparql_eval.proofs.ValueSteps.{values_joined}
use Rattle.sparql_eval.proofs.values.values_of.Goals as goal

pub invariant_of-job : goal.invariant_of-job
invariant_of-job g c = record { known = rows_known_at c.args.dict.now c.args.rows.now.rows c.requires.known }

pub returns-clause-values : goal.returns-clause-values
returns-clause-values g c =
    let terms = c.args.dict.now in
    let e = expression_of c.args.expression.now in
    let rows = c.args.rows.now.rows in
    let size = c.piece_size-size.result in
    let all = rw c.in-All.is at c.in_ok-outs.ensures.outcome in
    let long = enough c.len-count.result (length rows) size c.div_ceil-pieces.result (length c.in-All.outs.items) c.piece_size-size.ensures.some
    c.len-count.ensures.value c.div_ceil-pieces.ensures all.count in
    values_joined terms e size c.in-All.outs.items rows
    (λ i d low. all.each i d (subst (λ (x : ℕ). i < x) all.count low)) long

pub returns-in_err-outs-clause-alone : goal.returns-in_err-outs-clause-alone
returns-in_err-outs-clause-alone g c within =
    let long = c.len-count.ensures.value in
    let least = c.piece_size-size.ensures.least in
    let one = one-piece c.len-count.result c.piece_size-size.result c.div_ceil-pieces.result c.piece_size-size.ensures.some
    (omega arith) c.div_ceil-pieces.ensures in
    let fault = c.in_err-outs.ensures.alone one in
    let converted = c.from_residual.ensures in
    search rules
