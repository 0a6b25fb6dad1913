use Rattle.std.proofs.Common.{List, ◌-◌, ◌∙◌, ap, sym, map, take, drop, slice_range}
use Rattle.std.proofs.lemmas.List.{take-map, drop-map}
use Rattle.dict_core.specs.declared.num_quad.NumQuad.{NumQuad}
use Rattle.quad_index.specs.Packed.{quad_of}
use Rattle.quad_index.specs.Lists.{held_quads}
use Rattle.quad_index.proofs.quads.Quads.part.Goals as goal

pub returns-in-Packed : goal.returns-in-Packed
returns-in-Packed c =
    let f = quad_of c.in-Packed.order in
    let keys = c.in-Packed.keys.now in
    let count = c.args.to - c.args.from in record {
      quads = c.packed.ensures.quads ∙ ap (map f) c.between.ensures.items
          ∙ sym (ap (take count) (drop-map f c.args.from keys) ∙ take-map f count (drop c.args.from keys))
          ∙ ap (λ (qs : List NumQuad). slice_range qs c.args.from c.args.to) (sym (ap held_quads c.in-Packed.is) ∙ c.self.view_is);
    }
