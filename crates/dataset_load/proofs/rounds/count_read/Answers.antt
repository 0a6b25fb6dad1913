use Rattle.std.proofs.Common.{ap, arith}
use Rattle.text_pieces.specs.declared.text_piece.TextPiece.{TextPiece}
use Rattle.dataset_load.proofs.ReadingSteps.{total_more}
use Rattle.dataset_load.proofs.rounds.count_read.Goals as goal

pub loop-piece-preserved : goal.loop-piece-preserved
loop-piece-preserved c =
    let was = c.loop-piece.invariant in
    let more = total_more c.args.pieces.now c.loop-piece.piece-index c.piece-item.result (omega arith) in
    let same = ap (λ (r : TextPiece). r.lines) c.piece-item.is in
    record { total = omega (arith, more, same, was.total); small = omega (arith, was.small) }
