use Rattle.cluster_parts.specs.Hash.{hash}
use Rattle.cluster_parts.proofs.PartSteps.{map_more}
use Rattle.cluster_parts.proofs.hashing.text_hashes.Goals as goal

pub loop-n-preserved : goal.loop-n-preserved
loop-n-preserved c =
    map_more hash c.args.texts.now.texts c.loop-n.n c.text.result.now c.hash_of.result c.loop-n.hashes.items c.push.new.self.items
    c.text.ensures.value c.loop-n.invariant c.hash_of.ensures.value c.in_ok-push.ensures.items
