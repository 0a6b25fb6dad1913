use Rattle.std.proofs.Common.{◌++◌, ap, ◌∙◌}
use Rattle.cluster_parts.specs.Keys.{key_of, reduced_key}
use Rattle.cluster_parts.specs.Seal.{sealed}
use Rattle.cluster_parts.proofs.PartSteps.{same_length, three_texts}
use Rattle.cluster_parts.proofs.RemainderLaws.{parts_same, unkeyed_same}
use Rattle.cluster_parts.proofs.key_splits.parts_by_key.Goals as goal

pub part_of-requires : goal.part_of-requires
part_of-requires c =
    let block = c.args.block.now in
    let read = c.requires.read in record {
      read = read;
      all = same_length read.0 block.texts.texts block.quads.items (reduced_key c.args.partitions (key_of c.args.key.now)) _ read.1 (c.as_slice.ensures.value ∙ c.in_ok-keys.ensures.keys read.0 read.1);
      some = c.requires.some;
    }

pub push_keyed_parts-requires : goal.push_keyed_parts-requires
push_keyed_parts-requires c =
    let block = c.args.block.now in
    let read = c.requires.read in record {
      read = read;
      all = same_length read.0 block.texts.texts block.quads.items (reduced_key c.args.partitions (key_of c.args.key.now)) _ read.1 (c.as_slice-3.ensures.value ∙ c.in_ok-keys.ensures.keys read.0 read.1);
      some = c.requires.some;
    }

pub returns : goal.returns
returns c =
    let P = c.args.partitions in
    let key = key_of c.args.key.now in
    let reduced = reduced_key P key in record {
      parts = λ quads h. three_texts _ _ _ _ _ _ _ c.new-out.ensures.items c.in_ok-push_sealed_number.ensures.appended
          (c.in_ok-push_sealed.ensures.appended
          ∙ ap (λ t. c.push_sealed_number.new.out.items ++ sealed t)
          (c.as_slice-2.ensures.value ∙ c.in_ok-unkeyed.ensures.part quads reduced h (c.as_slice.ensures.value ∙ c.in_ok-keys.ensures.keys quads h) ∙ unkeyed_same P c.requires.some key quads))
          (c.in_ok-push_keyed_parts.ensures.parts quads reduced h (c.as_slice-3.ensures.value ∙ c.in_ok-keys.ensures.keys quads h)
          ∙ ap (λ t. c.push_sealed.new.out.items ++ t) (parts_same P c.requires.some key quads));
    }
