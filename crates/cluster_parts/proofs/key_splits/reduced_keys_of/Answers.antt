use Rattle.std.proofs.Common.{◌%◌, ap, length, map, ◌∙◌, subst, sym}
use Rattle.std.specs.Option.{option_map}
use Rattle.std.proofs.lemmas.List.{length-map}
use Rattle.std.proofs.lemmas.Result.{IfOk-weaker}
use Rattle.dict_core.specs.declared.num_quad.NumQuad.{NumQuad}
use Rattle.dict_core.specs.NumQuad.{AreBelow}
use Rattle.cluster_parts.specs.Hash.{hash}
use Rattle.cluster_parts.specs.Keys.{key_by_numbers}
use Rattle.cluster_parts.proofs.PartSteps.{numbers_below}
use Rattle.cluster_parts.proofs.RemainderLaws.{reduced_keys_are}
use Rattle.cluster_parts.proofs.key_splits.reduced_keys_of.Goals as goal

pub reduced_keys-requires : goal.reduced_keys-requires
reduced_keys-requires c =
    let texts = c.args.block.now.texts.texts in record {
      below = subst (AreBelow (length c.as_slice.result.now)) (sym c.as_slice-2.ensures.value)
          (numbers_below c.requires.read.0 texts _ _ c.requires.read.1 (ap length (c.as_slice.ensures.value ∙ c.in_ok-hashes.ensures.hashes) ∙ length-map texts hash));
      some = c.requires.some;
    }

pub returns : goal.returns
returns c =
    let block = c.args.block.now in
    let key = c.args.key.now in
    let hashes = c.as_slice.result.now in record {
      keys = IfOk-weaker c.reduced_keys.result _ _
          (λ made is. λ quads h. reduced_keys_are key c.args.partitions quads block.texts.texts block.quads.items hashes made.items h (c.as_slice.ensures.value ∙ c.in_ok-hashes.ensures.hashes)
          (is ∙ ap (map (λ (q : NumQuad). option_map (λ h. h % c.args.partitions) (key_by_numbers key hashes q))) c.as_slice-2.ensures.value))
          c.reduced_keys.ensures.keys;
    }
