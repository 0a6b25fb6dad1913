use Rattle.std.proofs.Common.{◌≡◌, List, ◌∙◌, ap, filter, length, map, sym}
use Rattle.algebra_model.specs.Bag.{without_repeats}
use Rattle.dict_core.specs.declared.num_quad.NumQuad.{NumQuad}
use Rattle.dict_core.proofs.NumQuadLaws.{quad_eq}
use Rattle.quad_index.specs.Lists.{stored_quads}
use Rattle.quad_index.specs.Packed.{quad_of}
use Rattle.quad_index.specs.Parts.{is_in}
use Rattle.quad_index.proofs.PartSteps.{counted_quads}
use Rattle.quad_index.proofs.parts.count_part.Goals as goal

pub returns-in_ok-counts-in-Packed : goal.returns-in_ok-counts-in-Packed
returns-in_ok-counts-in-Packed c =
    let f = quad_of c.in-Packed.order in
    let stored : map f c.in-Packed.keys.items ≡ c.args.quads.now = sym (ap stored_quads c.in-Packed.is) ∙ c.quads.view_is in
    record {
      count = counted_quads _ _ (c.in_ok-counts-in-Packed.ensures.counts c.in-Packed.order)
          ∙ ap (λ (qs : List NumQuad). length (without_repeats quad_eq qs))
          (c.in_ok-keys_in_part-in-Packed.ensures.keys ∙ ap (filter (is_in c.args.part)) (ap (map f) c.as_slice.ensures.value ∙ stored));
    }

pub returns-in_ok-counts-in-Plain : goal.returns-in_ok-counts-in-Plain
returns-in_ok-counts-in-Plain c =
    let stored : c.in-Plain.list.items ≡ c.args.quads.now = sym (ap stored_quads c.in-Plain.is) ∙ c.quads.view_is in
    record {
      count = counted_quads _ _ c.in_ok-counts-in-Plain.ensures.counts
          ∙ ap (λ (qs : List NumQuad). length (without_repeats quad_eq qs))
          (c.in_ok-quads_in_part-in-Plain.ensures.quads ∙ ap (filter (is_in c.args.part)) (c.as_slice-in-Plain.ensures.value ∙ stored));
    }
