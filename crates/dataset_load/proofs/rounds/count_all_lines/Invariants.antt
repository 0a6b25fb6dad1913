use Rattle.std.proofs.Common.{◌≡◌, ◌≤◌, ◌*◌, ◌-◌, ◌^◌, length, take}
use Rattle.dataset_load.specs.Lines.{all_lines, texts}
use Rattle.dataset_load.proofs.rounds.count_all_lines.Given as goal

abbrev pub invariant-loop-piece : goal.invariant-loop-piece
invariant-loop-piece l = record {
  count : l.count ≡ length (all_lines (texts (take l.piece-index l.pieces)));
  small : l.count ≤ l.piece-index * (2 ^ 64 - 1);
}
