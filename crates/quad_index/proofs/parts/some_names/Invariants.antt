use Rattle.std.proofs.Common.{◌≡◌, ℕ, nat_eq, take}
use Rattle.std.specs.List.{list_any}
use Rattle.quad_index.specs.Matching.{graph_names}
use Rattle.quad_index.proofs.parts.some_names.Given as goal

abbrev pub invariant-loop-place : goal.invariant-loop-place
invariant-loop-place l = (n : ℕ) → list_any (nat_eq n) l.names.items ≡ list_any (nat_eq n) (graph_names (take l.place l.quads))
