use Rattle.std.proofs.Common.{◌≡◌, true, take}
use Rattle.std.specs.List.{list_all}
use Rattle.rdf_core.specs.Characters.{is_iri_char}
use Rattle.rdf_core.proofs.lexical.plain.end_of_iri.Given as goal

abbrev pub invariant-loop-i : goal.invariant-loop-i
invariant-loop-i l = list_all is_iri_char (take l.i l.bytes) ≡ true
