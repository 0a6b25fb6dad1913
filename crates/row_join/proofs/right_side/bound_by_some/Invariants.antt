use Rattle.std.proofs.Common.{◌≡◌, ◌<◌, ℕ, length, get_or, is_some, None}
use Rattle.row_join.specs.Pairing.{binds}
use Rattle.row_join.proofs.right_side.bound_by_some.Given as goal

abbrev pub invariant-loop-v : goal.invariant-loop-v
invariant-loop-v l = record {
  long : length l.row.items ≡ l.v;
  bound : (u : ℕ) → u < l.v → is_some (get_or l.row.items u None) ≡ binds l.rows.rows u;
}
