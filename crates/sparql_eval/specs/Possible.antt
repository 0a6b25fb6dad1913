-- Solutions that may be joined with a list of solutions, and the graphs that these may name. Only
-- private clauses use these definitions.
use Rattle.std.specs.Prelude.{◌≡◌, ℕ, Bool, true, ◌&&◌, List, None, Some, filter, get_or, is_some, nat_eq, IsPermutation}
use Rattle.std.specs.List.{list_all, list_any}
use Rattle.std.specs.Option.{option_eq}
use Rattle.rdf_core.specs.declared.term.Term.{Term}
use Rattle.rdf_core.specs.Equality.{term_eq}
use Rattle.algebra_model.specs.Bag.{without_repeats}
use Rattle.algebra_model.specs.Solution.{Solution, is_compatible}
use Rattle.dict_core.specs.declared.num_quad.NumQuad.{NumQuad}
use Rattle.quad_index.specs.Matching.{graph_names}
use Rattle.sparql_eval.specs.Fitting.{fits}
use Rattle.sparql_eval.specs.declared.equalities.Equality.{Equality}

-- each solution binds the variable
abbrev pub bind_all : {T : Type 0} → List (Solution T) → ℕ → Bool
bind_all L v = list_all (λ μ. is_some (get_or μ v None)) L

module _ {T : Type 0} (same : T → T → Bool) (L : List (Solution T)) where
  -- compatible with one of the solutions
  abbrev pub meets_some : Solution T → Bool
  meets_some ν = list_any (λ μ. is_compatible same μ ν) L

  -- one of the solutions binds the variable to the term
  abbrev pub is_named : ℕ → T → Bool
  is_named v i = list_any (λ μ. option_eq same (get_or μ v None) (Some i)) L

-- the solution fits, and is compatible with one of the others
abbrev pub may_join : List Equality → List (Solution Term) → Solution Term → Bool
may_join pairs L ρ = fits pairs ρ && meets_some term_eq L ρ

-- the graphs that the rows name, if each row names one
abbrev pub ArePossible : List (Solution ℕ) → ℕ → List ℕ → List ℕ → Type 0
ArePossible rows v graphs found = (bind_all rows v ≡ true) × (found ≡ filter (is_named nat_eq rows v) graphs)

-- the same of the graphs of an index
abbrev pub ArePossibleIn : List NumQuad → List (Solution ℕ) → ℕ → List ℕ → Type 0
ArePossibleIn index rows v found =
    (graphs : List ℕ) × (IsPermutation (without_repeats nat_eq (graph_names index)) graphs × ArePossible rows v graphs found)

-- the numbers that the rows bind the variable to, if each row binds it
abbrev pub AreNumbersAt : List (Solution ℕ) → ℕ → List ℕ → Type 0
AreNumbersAt rows v numbers = (bind_all rows v ≡ true) × ((n : ℕ) → list_any (λ x. nat_eq x n) numbers ≡ is_named nat_eq rows v n)
