use Rattle.std.proofs.Common.{◌≡◌, List, take}
use Rattle.rdf_core.specs.QuadParts.{QuadParts}
use Rattle.cluster_parts.specs.Numbered.{AreQuadsOf}
use Rattle.cluster_parts.specs.Parts.{quad_document}
use Rattle.cluster_parts.proofs.filtered.document_of.Given as goal

abbrev pub invariant-loop-i : goal.invariant-loop-i
invariant-loop-i l = (quads : List QuadParts) → AreQuadsOf quads l.block → l.text.items ≡ quad_document (take l.i quads)
