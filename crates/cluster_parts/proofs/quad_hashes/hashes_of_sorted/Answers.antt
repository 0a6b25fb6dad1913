use Rattle.std.proofs.Common.{◌≡◌, List, ◌++◌, ap, length, map, ◌∙◌, sym, subst, IsPermutation}
use Rattle.std.proofs.lemmas.List.Sorted.{All-permutation, IsPermutation-map, IsPermutation-trans}
use Rattle.algebra_model.specs.Bag.{without_repeats}
use Rattle.dict_core.specs.declared.num_quad.NumQuad.{NumQuad}
use Rattle.dict_core.specs.Equality.{quad_eq}
use Rattle.dict_core.specs.NumQuad.{AreBelow, IsBelow}
use Rattle.cluster_parts.specs.Numbered.{hash_by_numbers}
use Rattle.cluster_parts.proofs.HashedLaws.{All-without_repeats}
use Rattle.cluster_parts.proofs.quad_hashes.hashes_of_sorted.Goals as goal

pub hashes_of_list-requires : goal.hashes_of_list-requires
hashes_of_list-requires c =
    let all : c.extend.new.self ≡ c.args.quads.now = c.in_ok-extend.ensures.added ∙ ap (λ (qs : List NumQuad). qs ++ c.args.quads.now) c.new-all.ensures.empty in
    let n = length c.args.terms.now in
    let once = without_repeats quad_eq c.args.quads.now in
    record {
      below = subst (AreBelow n) (sym c.quads.ensures.quads)
          (All-permutation (IsBelow n) once c.in_ok-list.list (subst (λ (qs : List NumQuad). IsPermutation (without_repeats quad_eq qs) c.in_ok-list.list) all c.in_ok-list.ensures.each_once)
          (All-without_repeats (IsBelow n) quad_eq c.args.quads.now c.requires.below));
    }

pub returns : goal.returns
returns c =
    let all : c.extend.new.self ≡ c.args.quads.now = c.in_ok-extend.ensures.added ∙ ap (λ (qs : List NumQuad). qs ++ c.args.quads.now) c.new-all.ensures.empty in
    let hash = hash_by_numbers c.args.terms.now in
    let once = without_repeats quad_eq c.args.quads.now in
    record {
      once = IsPermutation-trans (map hash once) c.in_ok-hashes.hashes.items _
          (subst (IsPermutation (map hash once)) (sym (c.in_ok-hashes.ensures.hashes ∙ ap (map hash) c.quads.ensures.quads)) (IsPermutation-map hash once c.in_ok-list.list (subst (λ (qs : List NumQuad). IsPermutation (without_repeats quad_eq qs) c.in_ok-list.list) all c.in_ok-list.ensures.each_once)))
          c.sort_unstable.ensures.permutation;
      ascending = c.sort_unstable.ensures.sorted;
    }
