use Rattle.cluster_parts.specs.Numbered.{hash_by_numbers}
use Rattle.cluster_parts.proofs.PartSteps.{map_more}
use Rattle.cluster_parts.proofs.quad_hashes.hashes_of_list.Goals as goal

pub loop-place-preserved : goal.loop-place-preserved
loop-place-preserved c =
    map_more (hash_by_numbers c.args.terms.now) c.args.quads.now c.loop-place.place c.get.result c.hash_of_quad.result c.loop-place.hashes.items c.push.new.self.items
    c.get.ensures.quad c.loop-place.invariant c.hash_of_quad.ensures.value c.in_ok-push.ensures.items
