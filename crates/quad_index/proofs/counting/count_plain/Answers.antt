use Rattle.std.proofs.Common.{List, ap, ◌∙◌, nat_eq, arith}
use Rattle.std.specs.List.{dedup}
use Rattle.dict_core.specs.declared.num_quad.NumQuad.{NumQuad}
use Rattle.quad_index.specs.Matching.{graph_names}
use Rattle.quad_index.proofs.CountingLaws.{counted_list}
use Rattle.quad_index.proofs.counting.count_plain.Goals as goal

pub returns : goal.returns
returns c = record {
  counts = counted_list c.args.quads.items c.sort_once.new.list.items c.in_ok-names.names.items _ c.sort_once.ensures.sorted c.sort_once.ensures.each_once
      (c.in_ok-names.ensures.names ∙ ap (λ (qs : List NumQuad). dedup nat_eq (graph_names qs)) (c.plain.ensures.quads ∙ c.as_slice.ensures.value)) (omega (arith, c.len.ensures, c.sort_once.new.list.ok.0)) (omega (arith, c.len-2.ensures, c.in_ok-names.names.ok.0));
}
