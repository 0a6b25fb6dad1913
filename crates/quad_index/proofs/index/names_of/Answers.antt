use Rattle.std.proofs.Common.{nat_eq, ap, ◌∙◌}
use Rattle.std.specs.List.{dedup}
use Rattle.std.proofs.lemmas.List.Filters.{dedup_is}
use Rattle.quad_index.proofs.index.names_of.Goals as goal

pub returns : goal.returns
returns c = record {
  names = c.shrink_to_fit.ensures.items ∙ dedup_is nat_eq _ _ c.dedup.ensures.filtered ∙ ap (dedup nat_eq) c.in_ok-names.ensures.names;
}
