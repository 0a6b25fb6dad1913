use Rattle.std.proofs.Common.{◌≡◌, ℕ, List, Option, filter, map, take}
use Rattle.rdf_core.specs.QuadParts.{QuadParts}
use Rattle.cluster_parts.specs.Numbered.{AreQuadsOf}
use Rattle.cluster_parts.specs.Keys.{is_chosen}
use Rattle.cluster_parts.specs.Parts.{quad_document}
use Rattle.cluster_parts.proofs.keyed.part_of.Given as goal

abbrev pub invariant-loop-i : goal.invariant-loop-i
invariant-loop-i l =
    (quads : List QuadParts) (key : QuadParts → Option ℕ) → AreQuadsOf quads l.block → l.keys ≡ map key quads
    → l.text.items ≡ quad_document (filter (λ q. is_chosen l.partitions l.number (key q)) (take l.i quads))
