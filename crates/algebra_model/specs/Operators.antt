-- The operators of the algebra (SPARQL 1.1 Query Language, section 18.5), defined over all
-- solutions or all pairs of them. Union is `++`, since multisets are lists.
use Rattle.std.specs.Prelude.{ℕ, zero, suc, Bool, true, false, ◌&&◌, ◌||◌, ◌==◌, not, List, [], ◌∷◌, ◌++◌, Option, None, Some, map, filter, flat_map, set, replicate, if◌then◌else◌}
use Rattle.std.specs.List.{list_any, list_all}
use Rattle.algebra_model.specs.Bag.{without_repeats}
use Rattle.algebra_model.specs.Solution.{Solution, is_compatible, merge, same_solution}

-- some variable is bound in both
abbrev pub share : {T : Type 0} → Solution T → Solution T → Bool
share [] ν = false
share (x ∷ μ) [] = false
share (None ∷ μ) (y ∷ ν) = share μ ν
share (Some x ∷ μ) (None ∷ ν) = share μ ν
share (Some x ∷ μ) (Some y ∷ ν) = true

-- μ with the variable v bound to the term, or μ itself if there is no term or v is bound already
abbrev pub bind : {T : Type 0} → ℕ → Option T → Solution T → Solution T
bind v t [] = []
bind zero t (None ∷ μ) = t ∷ μ
bind zero t (Some x ∷ μ) = Some x ∷ μ
bind (suc v) t (x ∷ μ) = x ∷ bind v t μ

-- the solution with only the variables that are kept, the others unbound
abbrev pub restrict : {T : Type 0} → (ℕ → Bool) → Solution T → Solution T
restrict keeps [] = []
restrict keeps (x ∷ μ) = (if keeps 0 then x else None) ∷ restrict (λ k. keeps (suc k)) μ

module _ {T : Type 0} (same : T → T → Bool) where
  -- the merges of μ with the solutions of B that are compatible with it
  abbrev pub merges : Solution T → List (Solution T) → List (Solution T)
  merges μ B = map (merge μ) (filter (is_compatible same μ) B)

  -- Join: the merge of each compatible pair, once for each pair
  abbrev pub join : List (Solution T) → List (Solution T) → List (Solution T)
  join A B = flat_map (λ μ. merges μ B) A

  -- LeftJoin, where `keeps` is whether the condition is true of a solution: the joined solutions
  -- that it keeps, and the other solutions of A. For the latter, every solution of B is
  -- incompatible or gives a merge of which the condition is not true.
  abbrev pub left_join :
      (Solution T → Bool) → List (Solution T) → List (Solution T) → List (Solution T)
  left_join keeps A B =
      filter keeps (join A B)
      ++ filter (λ μ. list_all (λ ν. not (is_compatible same μ ν && keeps (merge μ ν))) B) A

  -- Minus: each of A for which every one of B is incompatible or shares no bound variable with it
  abbrev pub minus : List (Solution T) → List (Solution T) → List (Solution T)
  minus A B = filter (λ μ. list_all (λ ν. not (is_compatible same μ ν) || not (share μ ν)) B) A

  -- Distinct: one of each solution
  abbrev pub distinct : List (Solution T) → List (Solution T)
  distinct A = without_repeats (same_solution same) A

-- Extend: v is bound to the value of each solution; an error, which is not a value, leaves the
-- solution unchanged
abbrev pub extend :
    {T : Type 0} → ℕ → (Solution T → Option T) → List (Solution T) → List (Solution T)
extend v value A = map (λ μ. bind v (value μ) μ) A

-- Project: all solutions, each with only the listed variables
abbrev pub project : {T : Type 0} → List ℕ → List (Solution T) → List (Solution T)
project vs A = map (restrict (λ v. list_any (λ u. u == v) vs)) A

-- one row of a table: of w variables the listed ones are bound to the cells, except those whose
-- cell is `None`, which is UNDEF
abbrev pub table_row : {T : Type 0} → ℕ → List ℕ → List (Option T) → Solution T
table_row w [] cells = replicate w None
table_row w (v ∷ vs) [] = replicate w None
table_row w (v ∷ vs) (x ∷ cells) = set (table_row w vs cells) v x

-- a table of VALUES (section 18.2.2.6, inline data): one solution for each row
abbrev pub table : {T : Type 0} → ℕ → List ℕ → List (List (Option T)) → List (Solution T)
table w vs rows = map (table_row w vs) rows
