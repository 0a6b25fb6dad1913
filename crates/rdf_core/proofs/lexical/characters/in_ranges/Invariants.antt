use Rattle.std.proofs.Common.{◌≡◌, drop}
use Rattle.rdf_core.specs.Characters.{in_ranges}
use Rattle.rdf_core.proofs.lexical.characters.in_ranges.Given as goal

abbrev pub invariant-loop-r : goal.invariant-loop-r
invariant-loop-r l = in_ranges (drop l.r-index l.ranges) l.c ≡ in_ranges l.ranges l.c
