-- Rows whose numbers are all numbers of terms of a dictionary. Only private clauses use these
-- definitions.
use Rattle.std.specs.Prelude.{◌≡◌, ℕ, ◌<◌, List, length, get_or, slice_get, Option, Some, None}
use Rattle.rdf_core.specs.declared.term.Term.{Term}
use Rattle.algebra_model.specs.Solution.{Solution}
use Rattle.algebra_model.specs.Renaming.{EachBound}

-- the cell is unbound, or its number is that of a term
abbrev pub IsKnownCell : List Term → Option ℕ → Type 0
IsKnownCell terms None = Unit {0}
IsKnownCell terms (Some n) = n < length terms

-- each number that the row binds is that of a term
abbrev pub IsKnownRow : List Term → Solution ℕ → Type 0
IsKnownRow terms μ = EachBound (λ n. n < length terms) μ

-- the same for one row and for rows, cell by cell
abbrev pub IsKnownAt : List Term → Solution ℕ → Type 0
IsKnownAt terms μ = (k n : ℕ) → get_or μ k None ≡ Some n → n < length terms

-- the same for each row
abbrev pub AreKnownAt : List Term → List (Solution ℕ) → Type 0
AreKnownAt terms A = (i : ℕ) (μ : Solution ℕ) → slice_get A i ≡ Some μ → IsKnownAt terms μ
