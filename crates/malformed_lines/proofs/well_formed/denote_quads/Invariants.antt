use Rattle.std.proofs.Common.{List, take}
use Rattle.rdf_core.specs.QuadParts.{QuadParts}
use Rattle.nquads_core.specs.Splitting.{DenoteAll}
use Rattle.malformed_lines.proofs.well_formed.denote_quads.Given as goal

abbrev pub invariant-loop-raw : goal.invariant-loop-raw
invariant-loop-raw l = (quads : List QuadParts) × DenoteAll (take l.raw-index l.raws) quads
