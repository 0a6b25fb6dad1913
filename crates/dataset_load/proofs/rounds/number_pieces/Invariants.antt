use Rattle.std.proofs.Common.{◌≡◌, ◌≤◌, ◌-◌, ◌*◌, ◌^◌, take, length}
use Rattle.dataset_load.specs.Lines.{all_lines, texts}
use Rattle.dataset_load.specs.Rounds.{HasRead}
use Rattle.dataset_load.proofs.rounds.number_pieces.Given as goal

abbrev pub invariant-loop-from : goal.invariant-loop-from
invariant-loop-from g l = record {
  inside : l.from ≤ length l.pieces;
  countable : l.so_far.lines ≤ l.from * (2 ^ 64 - 1);
  read : HasRead l.so_far (all_lines (texts (take l.from l.pieces)));
  filter : l.so_far.filter.now ≡ l.filter;
}

abbrev pub decreases-loop-from : goal.decreases-loop-from
decreases-loop-from g l = length l.pieces - l.from
