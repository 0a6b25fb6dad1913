use Rattle.std.proofs.Common.{◌≡◌, false, take}
use Rattle.sparql_lexer.specs.Terminal.{terminals}
use Rattle.query_diagnosis.proofs.rules.relative_iri.Given as goal
use Rattle.sparql_read.specs.RelativeIri.{has_relative_iri}

abbrev pub invariant-loop-i : goal.invariant-loop-i
invariant-loop-i l = has_relative_iri (take l.i (terminals l.tokens)) ≡ false
