-- The slice of a line that is one term (RDF 1.1 N-Quads, grammar).
use Rattle.std.specs.Prelude.{◌≡◌, ℕ, List, [], ◌∷◌, ◌++◌}
use Rattle.std.specs.Str.{IsUtf8, chars}
use Rattle.rdf_core.specs.declared.term.Term.{Term}
use Rattle.nquads_core.specs.Terminal.{Terminal, IsTerminal}
use Rattle.nquads_core.specs.Grammar.{Object}

-- The text is these terminals, with nothing between them, and then the rest.
abbrev pub Joins : List ℕ → List Terminal → List ℕ → Type 0
Joins text [] rest = text ≡ rest
Joins text (k ∷ ks) rest = (word : List ℕ) × (more : List ℕ) × (text ≡ word ++ more) × IsTerminal word k × Joins more ks rest

-- The slice is one term and no more. It has no blank before, between or after its terminals: <..>, _:..,
-- "..", ".."@tag or ".."^^<..>. Each subject, predicate and graph label is an object by these terminals.
pub record Denotes (raw : List ℕ) (term : Term) : Type 0 where
  pub utf8 : IsUtf8 raw
  pub terminals : List Terminal
  pub joins : Joins (chars raw) terminals []
  pub object : Object terminals term
