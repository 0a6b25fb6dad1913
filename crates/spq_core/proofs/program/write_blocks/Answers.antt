use Rattle.std.proofs.lemmas.Result.{err_from_is_err_and}
use Rattle.spq_core.proofs.BlockSteps.{block_begun, block_failed}
use Rattle.spq_core.proofs.program.write_blocks.Goals as goal

pub returns-in_err-write_text-clause-failed : goal.returns-in_err-write_text-clause-failed
returns-in_err-write_text-clause-failed g c =
    let p = err_from_is_err_and c.from_residual.result c.from_residual.ensures.1 in
    rw p.1 (block_begun _ _ _ c.args.blocks.now c.loop-block.block-index c.block-item.result c.deref.result.now c.loop-block-test.true c.block-item.is c.deref.ensures.value c.loop-block.invariant.appended c.in_err-write_text.ensures.failed)

pub returns-in_err-write_text-clause-failed_count : goal.returns-in_err-write_text-clause-failed_count
returns-in_err-write_text-clause-failed_count g c =
    let p = err_from_is_err_and c.from_residual.result c.from_residual.ensures.1 in
    rw p.1 (block_failed g.K.Sink.write_gives _ _ _ _ _ _ c.args.blocks.now c.loop-block.block-index c.block-item.result c.deref.result.now _ c.loop-block-test.true c.block-item.is c.deref.ensures.value c.loop-block.invariant.count c.loop-block.invariant.appended c.in_err-write_text.ensures.failed_count)
