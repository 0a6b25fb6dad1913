use Rattle.std.proofs.Common.{List, length, nat_eq, ap, ◌∙◌, arith}
use Rattle.std.proofs.lemmas.List.Filters.{dedup_is}
use Rattle.algebra_model.specs.Bag.{without_repeats}
use Rattle.dict_core.specs.declared.num_quad.NumQuad.{NumQuad}
use Rattle.quad_index.specs.Matching.{graph_names}
use Rattle.quad_index.proofs.PartSteps.{names_counted}
use Rattle.quad_index.proofs.parts.count_names.Goals as goal

pub returns : goal.returns
returns c =
    let once = dedup_is nat_eq _ _ c.dedup.ensures.filtered in
    let counted = names_counted c.in_ok-names.names.items c.sort.new.self.items _ c.sort.ensures.permutation c.in_ok-sort.ensures.sorted c.in_ok-names.ensures.same in record {
      count = omega (arith, c.len.ensures, c.dedup.new.self.ok.0, ap length once) ∙ counted
          ∙ ap (λ (qs : List NumQuad). length (without_repeats nat_eq (graph_names qs))) c.quads.ensures.quads;
    }
