use Rattle.std.proofs.Common.{◌≡◌, ◌≤◌, ◌+◌, ◌*◌, ◌^◌, ℕ, List, Option, false, length}
use Rattle.piece_cuts.specs.declared.blocks.BlockState.TheVariants.{Reading}
use Rattle.nquads_core.specs.Device.{Stays}
use Rattle.dataset_load.specs.Ahead.{IsAhead, IsSpent}
use Rattle.dataset_load.specs.Limits.{least_bytes_of_a_round, most_pieces_of_a_round}
use Rattle.dataset_load.specs.BadRounds.{IsBadList}
use Rattle.dataset_load.proofs.LimitSteps.{IsLongFor}
use Rattle.dataset_load.proofs.rest.list_rounds.Given as goal

abbrev pub invariant-loop : goal.invariant-loop
invariant-loop g l = record {
  few : length l.round.blocks.items ≤ most_pieces_of_a_round;
  state : l.round.is_last ≡ false → l.blocks.state ≡ Reading;
  countable : l.list.lines ≤ l.fn.list.lines + l.counter * 2 ^ 84;
  read : (start : Option (List ℕ)) (n : ℕ) → IsAhead (IsBadList n l.fn.list) start (g.S.Source.left l.fn.reader) l.fn.blocks.kept l.fn.first
      → IsAhead (IsBadList n l.list) start (g.S.Source.left l.reader) l.blocks.kept l.round;
  spent : (start : Option (List ℕ)) → (l.fn.first.is_last ≡ false → IsSpent 0 start (g.S.Source.left l.fn.reader) l.fn.blocks.kept)
      → (l.round.is_last ≡ false → IsSpent (l.counter * least_bytes_of_a_round) start (g.S.Source.left l.reader) l.blocks.kept)
      × IsLongFor l.counter start;
  failures : Stays (g.S.Source.failures l.fn.reader) (g.S.Source.failures l.reader);
}
