-- The order of rows, which is a choice of this project (SPARQL 1.1 Query Language, section 15.1,
-- does not fix the order of a result without ORDER BY).
use Rattle.std.specs.Prelude.{ℕ, List, Option, None, map, get_or}
use Rattle.std.specs.declared.cmp.Ordering.{Ordering}
use Rattle.std.specs.Option.{option_cmp}
use Rattle.std.specs.Cmp.Lexicographic.{slice_cmp}
use Rattle.rdf_core.specs.declared.term.Term.{Term}
use Rattle.rdf_core.specs.Order.{term_cmp}
use Rattle.algebra_model.specs.Solution.{Solution}
use Rattle.algebra_model.specs.Sorted.{sorted_list}

-- the row of a solution: the terms of the listed variables, in the order of the list
abbrev pub cells : {T : Type 0} → List ℕ → Solution T → List (Option T)
cells vs μ = map (λ v. get_or μ v None) vs

-- cell by cell: unbound first, and then by the order of terms
abbrev pub cells_cmp : List (Option Term) → List (Option Term) → Ordering
cells_cmp = slice_cmp (option_cmp term_cmp)

-- the order of solutions by their rows
abbrev pub row_cmp : List ℕ → Solution Term → Solution Term → Ordering
row_cmp vs μ ν = cells_cmp (cells vs μ) (cells vs ν)

-- the rows of a multiset of solutions, in ascending order
abbrev pub sorted_rows : List ℕ → List (Solution Term) → List (List (Option Term))
sorted_rows vs A = sorted_list cells_cmp (map (cells vs) A)
