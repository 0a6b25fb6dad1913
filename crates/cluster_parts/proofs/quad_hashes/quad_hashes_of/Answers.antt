use Rattle.std.proofs.Common.{ap, length, map, ◌∙◌, sym, subst}
use Rattle.std.proofs.lemmas.List.{length-map}
use Rattle.dict_core.specs.NumQuad.{AreBelow}
use Rattle.cluster_parts.specs.Hash.{hash}
use Rattle.cluster_parts.specs.Numbered.{hash_by_numbers}
use Rattle.cluster_parts.proofs.PartSteps.{numbers_below, quad_hashes}
use Rattle.cluster_parts.proofs.quad_hashes.quad_hashes_of.Goals as goal

pub hashes_of_quads-requires : goal.hashes_of_quads-requires
hashes_of_quads-requires c = record {
  below = subst (AreBelow (length c.args.terms.now)) (sym c.as_slice.ensures.value)
      (numbers_below c.requires.read.0 c.args.block.now.texts.texts _ _ c.requires.read.1 (ap length c.requires.hashed ∙ length-map c.args.block.now.texts.texts hash));
}

pub returns : goal.returns
returns c = record {
  hashes = λ quads h. quad_hashes quads c.args.block.now.texts.texts c.args.block.now.quads.items c.args.terms.now _ h c.requires.hashed
      (c.in_ok-hashes.ensures.hashes ∙ ap (map (hash_by_numbers c.args.terms.now)) c.as_slice.ensures.value);
}
