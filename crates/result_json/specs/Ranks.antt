-- Cells of rows as numbers: first the numbers of their terms, then the ranks of the terms. Only
-- private clauses use these definitions.
use Rattle.std.specs.Prelude.{◌≡◌, ℕ, zero, suc, Bool, true, false, ◌+◌, ◌*◌, ◌<◌, ◌≤◌, List, length, map, get_or, slice_get, Option, None, Some, Contains}
use Rattle.std.specs.Ordering.{is_lt}
use Rattle.std.specs.Borrow.{Bor}
use Rattle.rdf_core.specs.declared.term.Term.{Term}
use Rattle.rdf_core.specs.Order.{term_cmp}
use Rattle.algebra_model.specs.RowOrder.{cells}
use Rattle.algebra_model.specs.Solution.{Solution}

-- the code of a cell over a number of terms: the number of its term, or the count of the terms if
-- it is unbound
abbrev pub code_of : ℕ → Option ℕ → ℕ
code_of count None = count
code_of count (Some n) = n

-- the codes of the listed variables in a row
abbrev pub codes_of : ℕ → List ℕ → Solution ℕ → List ℕ
codes_of count listed μ = map (code_of count) (cells listed μ)

-- the cell of a rank: unbound for 0, and otherwise the term at the rank minus one
abbrev pub ranked_cell : List Term → ℕ → Option Term
ranked_cell terms zero = None
ranked_cell terms (suc i) = slice_get terms i

-- the cells of these ranks
abbrev pub ranked_row : List Term → List ℕ → List (Option Term)
ranked_row terms ranks = map (ranked_cell terms) ranks

-- the rank is 0, or it is the last place of a term plus one
abbrev pub IsRank : List Term → ℕ → Type 0
IsRank terms zero = Unit {0}
IsRank terms (suc i) = (i < length terms) × ((j : ℕ) → slice_get terms j ≡ slice_get terms i → j ≤ i)

-- a borrowed term and its number
abbrev pub Entry : Type 0
Entry = Bor Term × ℕ

-- the terms of the entries
abbrev pub terms_of : List Entry → List Term
terms_of entries = map (λ e. e.0.now) entries

-- the numbers of the entries
abbrev pub numbers_of : List Entry → List ℕ
numbers_of entries = map (λ e. e.1) entries

-- the term has this number
abbrev pub IsEntry : List Term → Entry → Type 0
IsEntry dict e = slice_get dict e.1 ≡ Some e.0.now

-- the number's place is marked, if it has one
abbrev pub IsMarked : List Bool → ℕ → Type 0
IsMarked marks n = get_or marks n true ≡ true

-- the number is listed, if it is the number of a term
abbrev pub IsCovered : ℕ → List ℕ → ℕ → Type 0
IsCovered count numbers n = n < count → Contains numbers n

-- for the number at place j, the table has its last place among the first n places, plus one
abbrev pub HasRank : ℕ → List ℕ → List ℕ → ℕ → Type 0
HasRank n numbers table j = (i : ℕ)
    × (get_or table (get_or numbers j 0) 0 ≡ suc i)
    × (j ≤ i)
    × (i < n)
    × (get_or numbers i 0 ≡ get_or numbers j 0)

-- the table has the rank of each of the numbers
abbrev pub IsRankTable : List ℕ → List ℕ → Type 0
IsRankTable numbers table = (j : ℕ) → j < length numbers → HasRank (length numbers) numbers table j

-- no term from one place up to another is after the next term
abbrev pub IsRisingPart : List Term → ℕ → ℕ → Type 0
IsRisingPart terms from to = (k : ℕ) (d : Term)
    → from ≤ k
    → k < to
    → is_lt (term_cmp (get_or terms (k + 1) d) (get_or terms k d)) ≡ false

-- no term of piece i is after the next term of the list, with `size` terms in a piece
abbrev pub IsPieceInOrder : ℕ → ℕ → List Term → Type 0
IsPieceInOrder size i terms = (k : ℕ) (d : Term)
    → i * size ≤ k
    → k < i * size + size
    → k + 1 < length terms
    → is_lt (term_cmp (get_or terms (k + 1) d) (get_or terms k d)) ≡ false
