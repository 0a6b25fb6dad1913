use Rattle.std.proofs.Common.{◌≡◌, ◌≤◌, ◌*◌, ◌-◌, ◌^◌, take}
use Rattle.dataset_load.specs.Rounds.{line_total}
use Rattle.dataset_load.proofs.rounds.count_read.Given as goal

abbrev pub invariant-loop-piece : goal.invariant-loop-piece
invariant-loop-piece l = record {
  total : l.count ≡ line_total (take l.piece-index l.pieces);
  small : l.count ≤ l.piece-index * (2 ^ 64 - 1);
}
