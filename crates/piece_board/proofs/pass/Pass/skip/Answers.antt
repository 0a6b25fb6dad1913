use Rattle.std.proofs.Common.{◌≤◌, length, arith}
use Rattle.piece_board.proofs.LengthLaws.{length_few}
use Rattle.piece_board.proofs.pass.Pass.skip.Goals as goal

pub overflow_add-self : goal.overflow_add-self
overflow_add-self c = let kept = c.self.invariant.3 in let r = c.self.inside.seat.me.0 in
    let few : length r.draws ≤ r.pieces = length_few r.pieces r.draws kept.once in let fits = kept.pieces_fit in let room = kept.room in omega arith
