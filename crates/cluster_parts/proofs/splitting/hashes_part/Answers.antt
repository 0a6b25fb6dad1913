use Rattle.std.proofs.Common.{arith}
use Rattle.cluster_parts.proofs.RemainderLaws.{one_more_hash}
use Rattle.cluster_parts.proofs.splitting.hashes_part.Goals as goal

pub loop-i-preserved : goal.loop-i-preserved
loop-i-preserved c =
    one_more_hash c.args.partitions c.requires.some c.args.number c.args.hashes.now c.args.parts.now c.loop-i.i c.loop-i.chosen.items c.push_if_in.new.out.items
    (omega (arith, c.loop-i-test.true)) c.requires.reduced c.loop-i.invariant c.in_ok-push_if_in.ensures.appended
