use Rattle.std.proofs.Common.{All, take}
use Rattle.quad_index.specs.Packed.{IsSmall}
use Rattle.quad_index.proofs.packed.are_small.Given as goal

abbrev pub invariant-loop-quad : goal.invariant-loop-quad
invariant-loop-quad l = All IsSmall (take l.quad-index l.quads)
