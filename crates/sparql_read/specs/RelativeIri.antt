-- Relative IRIs. (Their rejection is a choice of this project: a query has no base IRI.)
use Rattle.std.specs.Prelude.{ℕ, List, Bool, false, not, Option, Some, None}
use Rattle.std.specs.List.{list_any}
use Rattle.rdf_core.specs.Lexical.{has_scheme}
use Rattle.sparql_lexer.specs.declared.token.Kind.{Kind}
use Rattle.sparql_lexer.specs.declared.token.Kind.TheVariants as kind
use Rattle.sparql_lexer.specs.Terminal.{Terminal, terminal}
use Rattle.sparql_grammar.specs.Class.{reference_of}

-- an IRI is relative if it has no scheme
abbrev pub lacks_scheme : Option (List ℕ) → Bool
lacks_scheme None = false
lacks_scheme (Some i) = not (has_scheme i)

-- an [139] IRIREF whose IRI, with its escapes decoded, has no scheme
abbrev pub is_relative : Terminal → Bool
is_relative (terminal k x) = lacks_scheme (reference_of k x)

-- some [139] IRIREF is relative, in a declaration or elsewhere
abbrev pub has_relative_iri : List Terminal → Bool
has_relative_iri ts = list_any is_relative ts
