use Rattle.std.proofs.Common.{◌≡◌, drop}
use Rattle.rdf_core.specs.Lexical.{is_scheme_rest}
use Rattle.rdf_core.proofs.lexical.schemes.has_scheme.Given as goal

abbrev pub invariant-loop-b : goal.invariant-loop-b
invariant-loop-b l = is_scheme_rest (drop l.b-index l.b-items) ≡ is_scheme_rest l.b-items
