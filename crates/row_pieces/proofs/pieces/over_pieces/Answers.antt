use Rattle.std.proofs.Common.{rules, arith, ◌<◌, ℕ, List, length, sym, subst, ◌∙◌, Option}
use Rattle.algebra_model.specs.Bag.{IsSameBag}
use Rattle.algebra_model.specs.Pieces.{joined}
use Rattle.row_pieces.proofs.PieceLaws.{enough, one-piece}
use Rattle.row_pieces.proofs.PieceSteps.{pieces-joined}
use Rattle.row_pieces.proofs.pieces.over_pieces.Goals as goal

pub returns-clause-rows : goal.returns-clause-rows
returns-clause-rows g c =
    let size = c.piece_size-size.result in
    let parts = g.W.RowWork.parts c.args.work.now in
    let all = rw c.in-All.is at c.in_ok-outs.ensures.outcome in
    let long = enough c.count-count.result (length parts) size c.div_ceil-pieces.result (length c.in-All.outs.items) c.piece_size-size.ensures.some
    c.count-count.ensures.value c.div_ceil-pieces.ensures all.count in (
      c.in_ok-join_pieces-in-All.ensures.width ∙ c.row_width.ensures.value,
      subst (λ (rows : List (List (Option ℕ))). IsSameBag rows (joined parts)) (sym c.in_ok-join_pieces-in-All.ensures.rows)
          (pieces-joined (g.W.RowWork.width c.args.work.now) size c.in-All.outs.items parts
          (λ i d low. all.each i d (subst (λ (x : ℕ). i < x) all.count low)) long),
    )

pub returns-in_err-outs-clause-alone : goal.returns-in_err-outs-clause-alone
returns-in_err-outs-clause-alone g c within =
    let long = c.count-count.ensures.value in
    let least = c.piece_size-size.ensures.least in
    let more = c.rows_a_piece.ensures.least in
    let one = one-piece c.count-count.result c.piece_size-size.result c.div_ceil-pieces.result c.piece_size-size.ensures.some
    (omega arith) c.div_ceil-pieces.ensures in
    let one_worker = c.in_err-outs.ensures.alone one in
    let converted = c.from_residual.ensures in
    search rules
