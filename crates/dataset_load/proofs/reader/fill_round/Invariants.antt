use Rattle.std.proofs.Common.{◌≡◌, ◌≤◌, length}
use Rattle.piece_cuts.specs.declared.blocks.BlockState.TheVariants.{Reading}
use Rattle.nquads_core.specs.Device.{Stays}
use Rattle.dataset_load.specs.Lines.{EachEnds, block_texts, joined}
use Rattle.dataset_load.specs.ReadSoFar.{TakesRound}
use Rattle.dataset_load.proofs.reader.fill_round.Given as goal

abbrev pub invariant-loop-len : goal.invariant-loop-len
invariant-loop-len g l = record {
  few : length l.round.items ≤ l.len;
  pieces : l.len ≤ length (joined (block_texts l.round.items));
  counted : l.bytes ≤ length (joined (block_texts l.round.items));
  state : l.blocks.state ≡ Reading;
  ends : EachEnds (block_texts l.round.items);
  bytes : TakesRound (g.S.Source.left l.fn.reader) (g.S.Source.left l.reader) l.fn.blocks.kept l.blocks.kept (joined (block_texts l.round.items));
  failures : Stays (g.S.Source.failures l.fn.reader) (g.S.Source.failures l.reader);
}
