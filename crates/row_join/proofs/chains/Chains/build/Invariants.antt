use Rattle.std.proofs.Common.{◌≡◌, ◌+◌, length}
use Rattle.row_join.specs.Slots.{AreLinked, slot_at}
use Rattle.row_join.proofs.chains.Chains.build.Given as goal

abbrev pub invariant-loop-place : goal.invariant-loop-place
invariant-loop-place l = record {
  slots : length l.first.items ≡ l.column.span + 1;
  linked : AreLinked (slot_at l.column.rows.now.rows l.column.variable l.column.least l.column.span) (length l.column.rows.now.rows) l.place l.first.items l.next.items;
}
