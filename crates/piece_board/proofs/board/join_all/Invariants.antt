use Rattle.std.proofs.Common.{◌≡◌, ◌+◌, ◌-◌, ◌^◌, min, List, ◌++◌}
use Rattle.piece_board.specs.Pass.{PassView}
use Rattle.piece_board.specs.Board.{skips_of}
use Rattle.piece_board.specs.Joining.{HasJoined}
use Rattle.piece_board.proofs.board.join_all.Given as goal

abbrev pub invariant-loop-pass : goal.invariant-loop-pass
invariant-loop-pass l = (done : List PassView) × (l.initial.passes.items ≡ l.passes.items ++ done) × HasJoined l.initial.seat.me.0 done l.seat.me.0
    × (l.skipped ≡ min (2 ^ 64 - 1) (l.initial.skipped + skips_of done)) × (l.seat.table_id ≡ l.initial.seat.table_id)

abbrev pub decreases-loop-pass : goal.decreases-loop-pass
decreases-loop-pass l = goal.left-loop-pass l
