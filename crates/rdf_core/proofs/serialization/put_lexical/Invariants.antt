use Rattle.std.proofs.Common.{◌≡◌, ◌++◌, take}
use Rattle.std.specs.List.{flat_map}
use Rattle.rdf_core.specs.Serialization.{escaped}
use Rattle.rdf_core.proofs.serialization.put_lexical.Given as goal

abbrev pub invariant-loop-b : goal.invariant-loop-b
invariant-loop-b l = l.out.items ≡ l.fn.out.items ++ flat_map escaped (take l.b-index l.lexical)
