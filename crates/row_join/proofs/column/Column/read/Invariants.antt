use Rattle.std.proofs.Common.{◌≡◌, ◌+◌, ◌<◌, ◌≤◌, ℕ, filter, length, take, get_or, None, Some}
use Rattle.std.specs.Option.{is_none}
use Rattle.row_join.specs.Slots.{cell_at}
use Rattle.row_join.proofs.column.Column.read.Given as goal

abbrev pub invariant-loop-i : goal.invariant-loop-i
invariant-loop-i l = record {
  count : l.open_rows ≡ length (filter (λ μ. is_none (get_or μ l.variable None)) (take l.i l.rows.rows));
  within : l.open_rows ≤ l.i;
  between : (k n : ℕ) → k < l.i → cell_at l.rows.rows l.variable k ≡ Some n → (l.least ≤ n) × (n < l.greatest + 1);
}
