use Rattle.std.proofs.Common.{arith}
use Rattle.result_merge.proofs.ReadSteps.{others_step}
use Rattle.result_merge.proofs.merging.put_others.Goals as goal

pub loop-k-preserved : goal.loop-k-preserved
loop-k-preserved c =
    others_step c.args.rows.now c.loop-k.k c.index-rows-k.result c.args.out.now.items c.loop-k.out.items c.push.new.self.items c.extend_from_slice.new.self.items
    (omega arith) c.index-rows-k.is c.loop-k.invariant c.in_ok-push.ensures.items c.in_ok-extend_from_slice.ensures.items
