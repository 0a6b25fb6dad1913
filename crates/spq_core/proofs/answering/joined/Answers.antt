use Rattle.spq_core.proofs.BlockSteps.{block_joined}
use Rattle.spq_core.proofs.answering.joined.Goals as goal

pub loop-block-preserved : goal.loop-block-preserved
loop-block-preserved c =
    block_joined c.args.blocks.now c.loop-block.block-index c.block-item.result c.deref.result.now c.loop-block.bytes.items c.extend_from_slice.new.self.items c.loop-block-test.true c.block-item.is c.deref.ensures.value
    c.loop-block.invariant c.in_ok-extend_from_slice.ensures.items
