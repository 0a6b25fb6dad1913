use Rattle.std.proofs.Common.{◌≡◌, not, take}
use Rattle.std.specs.List.{list_all}
use Rattle.rdf_core.specs.Characters.{is_iri_char}
use Rattle.nquads_scan.proofs.plain.are_iri_bytes.Given as goal

abbrev pub invariant-loop-b : goal.invariant-loop-b
invariant-loop-b l = list_all is_iri_char (take l.b-index l.bytes) ≡ not l.ends
