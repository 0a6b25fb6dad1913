-- Terms that a variable has in every solution, since VALUES lists them (SPARQL 1.1 Query Language, section 10.2).
use Rattle.std.specs.Prelude.{ℕ, Bool, true, ◌||◌, ◌==◌, not, List, [], ◌∷◌, ◌++◌, Option, None, Some, get_or, option_map}
use Rattle.std.specs.List.{list_any, list_all}
use Rattle.rdf_core.specs.declared.term.Term.{Term}
use Rattle.rdf_core.specs.Equality.{term_eq}
use Rattle.algebra_model.specs.Algebra.{Algebra, Join, Table}
use Rattle.algebra_model.specs.Solution.{Solution}

-- the variable has one of these terms
pub record Restriction : Type 0 where
  pub variable : ℕ
  pub terms : List Term

-- the variable may have this term
abbrev pub allows : List Restriction → ℕ → Term → Bool
allows R v t = list_all (λ r. not (r.variable == v) || list_any (term_eq t) r.terms) R

-- unbound, or one of these terms
abbrev pub is_unbound_or_among : Option Term → List Term → Bool
is_unbound_or_among None terms = true
is_unbound_or_among (Some t) terms = list_any (term_eq t) terms

-- each variable is unbound, or it has one of its terms
abbrev pub fits : List Restriction → Solution Term → Bool
fits R μ = list_all (λ r. is_unbound_or_among (get_or μ r.variable None) r.terms) R

-- the terms of rows of one cell, if no cell is UNDEF
abbrev pub only_cells : List (List (Option Term)) → Option (List Term)
only_cells [] = Some []
only_cells ((Some t ∷ []) ∷ rows) = option_map (λ terms. t ∷ terms) (only_cells rows)
only_cells _ = None

-- a table of one variable restricts it
abbrev pub restricted : ℕ → Option (List Term) → List Restriction
restricted v None = []
restricted v (Some terms) = (record { variable = v; terms = terms }) ∷ []

-- In every solution each of these variables has one of its terms.
abbrev pub restrictions : Algebra → List Restriction
restrictions (Join A B) = restrictions A ++ restrictions B
restrictions (Table (v ∷ []) rows) = restricted v (only_cells rows)
restrictions _ = []
