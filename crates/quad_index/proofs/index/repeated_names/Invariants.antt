use Rattle.std.proofs.Common.{◌≡◌, take}
use Rattle.quad_index.specs.Matching.{graph_names}
use Rattle.quad_index.proofs.index.repeated_names.Given as goal

abbrev pub invariant-loop-place : goal.invariant-loop-place
invariant-loop-place l = l.names.items ≡ graph_names (take l.place l.quads)
