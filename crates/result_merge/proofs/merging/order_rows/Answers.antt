use Rattle.std.proofs.Common.{◌∙◌, Bool, ap, sym}
use Rattle.algebra_model.specs.RowOrder.{cells_cmp}
use Rattle.algebra_model.specs.Sorted.{sorted_list}
use Rattle.row_merge.specs.Merged.{kept}
use Rattle.result_merge.specs.Reading.{rows_of}
use Rattle.result_merge.proofs.merging.order_rows.Goals as goal

pub returns-then-distinct : goal.returns-then-distinct
returns-then-distinct c = record {
  rows = λ text h.
      let t = c.leave_one.ensures.rows text c.args.rows.now.items (c.in_ok-sort_rows.ensures.texts text h) c.in_ok-sort_rows.ensures.sorted in
      (t.0 ∙ ap (λ (b : Bool). sorted_list cells_cmp (kept b (rows_of c.args.rows.now.items))) (sym c.if-distinct.true), t.1);
}

pub returns-else-distinct : goal.returns-else-distinct
returns-else-distinct c = record {
  rows = λ text h.
      (c.in_ok-sort_rows.ensures.sorted ∙ ap (λ (b : Bool). sorted_list cells_cmp (kept b (rows_of c.args.rows.now.items))) (sym c.if-distinct.false), c.in_ok-sort_rows.ensures.texts text h);
}
