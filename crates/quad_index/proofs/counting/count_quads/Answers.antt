use Rattle.std.proofs.Common.{List, ap, ◌∙◌, subst, sym}
use Rattle.std.proofs.lemmas.Result.{IfOk-weaker}
use Rattle.dict_core.specs.declared.num_quad.NumQuad.{NumQuad}
use Rattle.quad_index.specs.Counting.{IsCountOf}
use Rattle.quad_index.specs.Lists.{stored_quads}
use Rattle.quad_index.proofs.counting.count_quads.Goals as goal

pub returns-in-Packed : goal.returns-in-Packed
returns-in-Packed c = record {
  counts = IfOk-weaker c.count_keys.result _ _
      (λ counts are. subst (λ (qs : List NumQuad). IsCountOf qs counts) (sym (ap stored_quads c.in-Packed.is) ∙ c.into_stored.ensures.quads) (are c.in-Packed.field-1))
      c.count_keys.ensures.counts;
}

pub returns-in-Plain : goal.returns-in-Plain
returns-in-Plain c = record {
  counts = IfOk-weaker c.count_plain.result _ _
      (λ counts are. subst (λ (qs : List NumQuad). IsCountOf qs counts) (sym (ap stored_quads c.in-Plain.is) ∙ c.into_stored.ensures.quads) are)
      c.count_plain.ensures.counts;
}
