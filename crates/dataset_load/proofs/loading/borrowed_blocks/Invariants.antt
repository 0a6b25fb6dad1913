use Rattle.std.proofs.Common.{◌≡◌, length, take}
use Rattle.dataset_load.specs.Lines.{texts, block_texts}
use Rattle.dataset_load.proofs.loading.borrowed_blocks.Given as goal

abbrev pub invariant-loop-block : goal.invariant-loop-block
invariant-loop-block l = record {
  texts : texts l.pieces.items ≡ block_texts (take l.block-index l.blocks);
  count : length l.pieces.items ≡ l.block-index;
}
