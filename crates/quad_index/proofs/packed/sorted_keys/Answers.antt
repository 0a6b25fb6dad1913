use Rattle.std.proofs.Common.{ℕ, List, map, nat_eq, ap, ◌∙◌, subst, IsPermutation}
use Rattle.std.proofs.lemmas.List.Filters.{dedup_is}
use Rattle.algebra_model.specs.Bag.{without_repeats}
use Rattle.dict_core.specs.declared.num_quad.NumQuad.{NumQuad}
use Rattle.dict_core.proofs.NumQuadLaws.{quad_eq}
use Rattle.quad_index.specs.Packed.{AreKeys, quad_of}
use Rattle.quad_index.proofs.PackedLaws.{packed_list}
use Rattle.quad_index.proofs.packed.sorted_keys.Goals as goal

pub returns : goal.returns
returns c =
    let f = quad_of c.args.order in
    let p = packed_list c.args.order c.in_ok-sorted.sorted.items c.sort.new.self.items _ (subst AreKeys c.as_slice.ensures.value c.keys_fit.ensures.fit) c.sort.ensures.permutation c.in_ok-sort.ensures.sorted
    (ap (λ (ks : List ℕ). map f ks) (c.shrink_to_fit.ensures.items ∙ dedup_is nat_eq _ _ c.dedup.ensures.filtered)) in record {
      sorted = p.sorted;
      each_once = subst (λ (qs : List NumQuad). IsPermutation (without_repeats quad_eq qs) (map f c.shrink_to_fit.new.self.items)) c.in_ok-sorted.ensures.same p.each_once;
      distinct = p.distinct;
    }
