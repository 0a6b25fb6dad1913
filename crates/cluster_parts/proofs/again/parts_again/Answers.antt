use Rattle.std.proofs.Common.{◌++◌, ap, ◌∙◌, nat_eq}
use Rattle.indexmap.specs.IndexSet.{contains}
use Rattle.cluster_parts.specs.Output.{again_parts, hash_among}
use Rattle.cluster_parts.proofs.PartSteps.{keys_are, same_length}
use Rattle.cluster_parts.proofs.again.parts_again.Goals as goal

pub push_keyed_parts-requires : goal.push_keyed_parts-requires
push_keyed_parts-requires c =
    let block = c.args.block.now in
    let read = c.requires.read in record {
      read = read;
      all = same_length read.0 block.texts.texts block.quads.items (hash_among c.args.hashes.now) _ read.1
          (c.as_slice-3.ensures.value
          ∙ keys_are (contains nat_eq c.in_ok-set.set) c.args.hashes.now read.0 c.as_slice-2.result.now _ c.in_ok-set.ensures.set
          (c.as_slice-2.ensures.value ∙ c.in_ok-quad_hashes.ensures.hashes read.0 read.1) c.in_ok-keys.ensures.keys);
      some = c.requires.some;
    }

pub returns : goal.returns
returns c = record {
  parts = λ quads h. c.in_ok-push_keyed_parts.ensures.parts quads (hash_among c.args.hashes.now) h
      (c.as_slice-3.ensures.value
      ∙ keys_are (contains nat_eq c.in_ok-set.set) c.args.hashes.now quads c.as_slice-2.result.now _ c.in_ok-set.ensures.set
      (c.as_slice-2.ensures.value ∙ c.in_ok-quad_hashes.ensures.hashes quads h) c.in_ok-keys.ensures.keys)
      ∙ ap (λ l. l ++ again_parts c.args.hashes.now c.args.partitions quads) c.new-out.ensures.items;
}
