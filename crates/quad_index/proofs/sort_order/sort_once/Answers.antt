use Rattle.std.proofs.Common.{sym, ◌∙◌, subst, IsPermutation, IsSorted}
use Rattle.std.proofs.lemmas.List.Filters.{dedup_is}
use Rattle.algebra_model.specs.Bag.{IsWithoutRepeats, without_repeats}
use Rattle.dict_core.proofs.NumQuadLaws.{quad_eq, quad_decides}
use Rattle.quad_index.specs.SortOrder.{order_cmp}
use Rattle.quad_index.proofs.OnceLaws.{dedup_sorted, dedup_distinct, dedup_once_of}
use Rattle.quad_index.proofs.SortOrderLaws.{order_total, order_ties}
use Rattle.quad_index.proofs.sort_order.sort_once.Goals as goal

pub returns-clause-sorted : goal.returns-clause-sorted
returns-clause-sorted c =
    subst (IsSorted (order_cmp c.args.order)) (sym (c.shrink_to_fit.ensures.items ∙ dedup_is quad_eq _ _ c.dedup.ensures.filtered))
    (dedup_sorted quad_eq quad_decides (order_cmp c.args.order) (order_total c.args.order) (order_ties c.args.order) _ c.sort_quads.ensures.sorted)

pub returns-clause-each_once : goal.returns-clause-each_once
returns-clause-each_once c =
    subst (IsPermutation (without_repeats quad_eq c.args.list.now.items)) (sym (c.shrink_to_fit.ensures.items ∙ dedup_is quad_eq _ _ c.dedup.ensures.filtered))
    (dedup_once_of quad_eq quad_decides (order_cmp c.args.order) (order_total c.args.order) (order_ties c.args.order) c.args.list.now.items _ c.sort_quads.ensures.same c.sort_quads.ensures.sorted)

pub returns-clause-distinct : goal.returns-clause-distinct
returns-clause-distinct c =
    subst (IsWithoutRepeats quad_eq) (sym (c.shrink_to_fit.ensures.items ∙ dedup_is quad_eq _ _ c.dedup.ensures.filtered))
    (dedup_distinct quad_eq quad_decides (order_cmp c.args.order) (order_total c.args.order) (order_ties c.args.order) _ c.sort_quads.ensures.sorted)
