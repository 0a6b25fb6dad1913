use Rattle.needed_quads.specs.Building.{AreAdded}
use Rattle.needed_quads.proofs.BuildingLaws.{may_match_some}
use Rattle.needed_quads.proofs.shapes.add_triples.Given as goal

abbrev pub invariant-loop-triple : goal.invariant-loop-triple
invariant-loop-triple l = AreAdded (may_match_some l.triples l.triple-index) l.graph l.known l.fn.shapes.items l.shapes.items
