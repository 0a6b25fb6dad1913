use Rattle.std.proofs.Common.{◌≡◌, ◌-◌, ◌^◌, vec_len}
use Rattle.piece_cuts.specs.declared.blocks.BlockState.TheVariants.{Reading}
use Rattle.nquads_core.specs.Device.{Stays}
use Rattle.dataset_load.specs.Lines.{EachEnds, block_texts, joined}
use Rattle.dataset_load.specs.ReadSoFar.{IsReadIn}
use Rattle.dataset_load.proofs.ReaderSteps.{IsCutSo}
use Rattle.dataset_load.proofs.reader.append_blocks.Given as goal

abbrev pub invariant-reading : goal.invariant-reading
invariant-reading g l = record {
  state : l.blocks.state ≡ Reading;
  size : l.blocks.size ≡ l.fn.blocks.size;
  ends : EachEnds (block_texts l.read.items);
  bytes : IsReadIn (g.S.Source.left l.fn.reader) (g.S.Source.left l.reader) (joined (block_texts l.read.items)) l.blocks.kept;
  cut : IsCutSo l.fn.blocks.size (g.S.Source.left l.fn.reader) (g.S.Source.left l.reader) (block_texts l.read.items) l.blocks.kept;
  count : Stays (g.S.Source.failures l.fn.reader) (g.S.Source.failures l.reader);
}

abbrev pub decreases-reading : goal.decreases-reading
decreases-reading g l = 2 ^ 63 - vec_len l.read
