use Rattle.std.proofs.Common.{◌≡◌, filter, map, take}
use Rattle.quad_index.specs.Packed.{quad_of}
use Rattle.quad_index.specs.Parts.{is_in}
use Rattle.quad_index.proofs.parts.keys_in_part.Given as goal

abbrev pub invariant-loop-key : goal.invariant-loop-key
invariant-loop-key l = map (quad_of l.order) l.found.items ≡ filter (is_in l.part) (take l.key-index (map (quad_of l.order) l.keys))
