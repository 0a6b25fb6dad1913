use Rattle.std.proofs.Common.{arith}
use Rattle.dataset_load.proofs.ReaderSteps.{borrowed_more, pushed_piece}
use Rattle.dataset_load.proofs.loading.borrowed_blocks.Goals as goal

pub loop-block-preserved : goal.loop-block-preserved
loop-block-preserved c =
    let was = c.loop-block.invariant in record {
      texts = borrowed_more c.loop-block.pieces.items _ c.args.blocks.now c.loop-block.block-index c.as_slice.result c.block-item.result
          c.loop-block-test.true was.texts c.as_slice.ensures.value c.block-item.is c.in_ok-push.ensures.items;
      count = omega (arith, was.count, pushed_piece c.loop-block.pieces.items _ c.as_slice.result c.in_ok-push.ensures.items);
    }
