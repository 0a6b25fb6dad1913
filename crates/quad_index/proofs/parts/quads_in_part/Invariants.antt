use Rattle.std.proofs.Common.{◌≡◌, filter, take}
use Rattle.quad_index.specs.Parts.{is_in}
use Rattle.quad_index.proofs.parts.quads_in_part.Given as goal

abbrev pub invariant-loop-quad : goal.invariant-loop-quad
invariant-loop-quad l = l.list.items ≡ filter (is_in l.part) (take l.quad-index l.quads)
