use Rattle.std.proofs.Common.{◌≡◌, ◌++◌, ℕ, List, Option, map}
use Rattle.rdf_core.specs.QuadParts.{QuadParts}
use Rattle.cluster_parts.specs.Numbered.{AreQuadsOf}
use Rattle.cluster_parts.specs.Parts.{texts_below}
use Rattle.cluster_parts.specs.Output.{quads_part}
use Rattle.cluster_parts.proofs.keyed.push_keyed_parts.Given as goal

abbrev pub invariant-loop-number : goal.invariant-loop-number
invariant-loop-number l =
    (quads : List QuadParts) (key : QuadParts → Option ℕ) → AreQuadsOf quads l.block → l.keys ≡ map key quads
    → l.out.items ≡ l.initial.out.items ++ texts_below (quads_part key l.partitions quads) l.number
