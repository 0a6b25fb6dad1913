use Rattle.std.proofs.Common.{ap, length, map, ◌∙◌, refl, sym, subst, IsPermutation}
use Rattle.std.proofs.lemmas.List.{length-map}
use Rattle.std.proofs.lemmas.List.Sorted.{IsPermutation-refl, IsPermutation-trans}
use Rattle.algebra_model.specs.Bag.{without_repeats}
use Rattle.dict_core.specs.Equality.{quad_eq}
use Rattle.dict_core.specs.NumQuad.{AreBelow}
use Rattle.cluster_parts.specs.Hash.{hash}
use Rattle.cluster_parts.specs.Numbered.{hash_by_numbers}
use Rattle.cluster_parts.proofs.PartSteps.{distinct_hashes, numbers_below}
use Rattle.cluster_parts.proofs.quad_hashes.distinct_hashes_of.Goals as goal

pub hashes_of_distinct-requires : goal.hashes_of_distinct-requires
hashes_of_distinct-requires c =
    let block = c.args.block.now in
    record {
      below = subst (AreBelow (length c.args.terms.now)) (sym c.as_slice.ensures.value)
          (numbers_below c.requires.read.0 block.texts.texts _ _ c.requires.read.1 (ap length c.requires.hashed ∙ length-map block.texts.texts hash));
    }

pub returns : goal.returns
returns c =
    let block = c.args.block.now in
    let once = without_repeats quad_eq block.quads.items in
    let hashes = map (hash_by_numbers c.args.terms.now) once in
    record {
      hashes = λ quads h. IsPermutation-trans _ hashes c.in_ok-hashes.hashes.items
          (distinct_hashes quads block.texts.texts block.quads.items once c.args.terms.now hashes h c.requires.hashed (IsPermutation-refl once) refl)
          (subst (λ l. IsPermutation (map (hash_by_numbers c.args.terms.now) (without_repeats quad_eq l)) c.in_ok-hashes.hashes.items) c.as_slice.ensures.value c.in_ok-hashes.ensures.once);
      ascending = c.in_ok-hashes.ensures.ascending;
    }
