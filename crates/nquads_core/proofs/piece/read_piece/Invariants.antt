use Rattle.std.proofs.Common.{length, map}
use Rattle.rdf_core.specs.QuadParts.{parts_of}
use Rattle.nquads_core.proofs.PieceLaws.{ReadLines}
use Rattle.nquads_core.proofs.piece.read_piece.Given as goal

abbrev pub invariant-loop-rest : goal.invariant-loop-rest
invariant-loop-rest l = ReadLines (map parts_of l.quads.items) l.count l.rest l.bytes

abbrev pub decreases-loop-rest : goal.decreases-loop-rest
decreases-loop-rest l = length l.rest
