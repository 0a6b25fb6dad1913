use Rattle.std.proofs.Common.{◌≡◌, false, take}
use Rattle.std.specs.List.{list_any}
use Rattle.quad_filter.specs.Slices.{has_texts}
use Rattle.quad_filter.proofs.matching.has_texts_of_any.Given as goal

abbrev pub invariant-loop-shape : goal.invariant-loop-shape
invariant-loop-shape l = list_any (has_texts l.raw) (take l.shape-index l.shapes) ≡ false
