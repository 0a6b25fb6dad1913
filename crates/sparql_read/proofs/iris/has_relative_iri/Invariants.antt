use Rattle.std.proofs.Common.{◌≡◌, drop}
use Rattle.sparql_lexer.specs.Terminal.{terminals}
use Rattle.sparql_read.specs.RelativeIri.{has_relative_iri}
use Rattle.sparql_read.proofs.iris.has_relative_iri.Given as goal

abbrev pub invariant-loop-token : goal.invariant-loop-token
invariant-loop-token l = has_relative_iri (terminals (drop l.token-index l.tokens)) ≡ has_relative_iri (terminals l.tokens)
