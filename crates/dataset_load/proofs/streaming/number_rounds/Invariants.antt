use Rattle.std.proofs.Common.{◌≡◌, ◌≤◌, ◌*◌, ◌^◌, false}
use Rattle.piece_cuts.specs.declared.blocks.BlockState.TheVariants.{Reading}
use Rattle.nquads_core.specs.Device.{Stays}
use Rattle.dataset_load.specs.Ahead.{IsReadAhead, IsSpent}
use Rattle.dataset_load.specs.Limits.{least_bytes_of_a_round}
use Rattle.dataset_load.proofs.LimitSteps.{IsLongFor}
use Rattle.dataset_load.proofs.streaming.number_rounds.Given as goal

abbrev pub invariant-loop : goal.invariant-loop
invariant-loop g l = record {
  state : l.round.is_last ≡ false → l.blocks.state ≡ Reading;
  countable : l.so_far.lines ≤ l.counter * 2 ^ 84;
  read : IsReadAhead (g.S.Source.left l.fn.reader) (g.S.Source.left l.reader) l.blocks.kept l.so_far l.round;
  spent : l.round.is_last ≡ false → IsSpent (l.counter * least_bytes_of_a_round) (g.S.Source.left l.fn.reader) (g.S.Source.left l.reader) l.blocks.kept;
  long : IsLongFor l.counter (g.S.Source.left l.fn.reader);
  filter : l.so_far.filter.now ≡ l.fn.so_far.filter.now;
  failures : Stays (g.S.Source.failures l.fn.reader) (g.S.Source.failures l.reader);
}
