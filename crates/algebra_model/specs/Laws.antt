-- The statements of the laws of the algebra. Each is the contract of a function of the module
-- `laws`.
use Rattle.std.specs.Prelude.{◌≡◌, ℕ, Bool, true, false, ◌+◌, ◌<◌, ◌↔◌, List, ◌++◌, Option, None, map, filter, filter_map, flat_map, take, replicate, count_by, option_map, nat_eq, IsPermutation}
use Rattle.std.specs.declared.cmp.Ordering.TheVariants.{Equal}
use Rattle.rdf_core.specs.declared.term.Term.{Term}
use Rattle.rdf_core.specs.QuadParts.{QuadParts}
use Rattle.rdf_core.specs.Equality.{term_eq}
use Rattle.algebra_model.specs.Bag.{IsSameBag, IsSameSet, IsWithoutRepeats}
use Rattle.algebra_model.specs.Solution.{Solution, same_solution, is_compatible}
use Rattle.algebra_model.specs.Bgp.{Triple, TriplePattern, bgp, same_triple_by}
use Rattle.algebra_model.specs.Operators.{merges, join, left_join, minus, extend, project, distinct, table}
use Rattle.algebra_model.specs.Algebra.{Algebra, Join, each_graph}
use Rattle.algebra_model.specs.Closed.{is_closed}
use Rattle.algebra_model.specs.Eval.{eval, in_graphs}
use Rattle.algebra_model.specs.Sorted.{IsRising}
use Rattle.algebra_model.specs.RowOrder.{cells, cells_cmp, row_cmp, sorted_rows}
use Rattle.algebra_model.specs.Renaming.{Each, EachBound, EachOfTriple, EachOfPattern, read_row, read_triple, read_pattern}
use Rattle.algebra_model.specs.Solve.{solve, extend_by, agrees_with, AreBelow, left_row}
use Rattle.algebra_model.specs.Keys.{is_keyed, same_key, candidates}
use Rattle.algebra_model.specs.Pieces.{joined}

-- A solution of terms.
abbrev pub Row : Type 0
Row = Solution Term

-- A multiset is determined by how often it has each solution.
abbrev pub BagIsItsCounts : Type 0
BagIsItsCounts = (A B : List Row)
    → IsSameBag A B
    ↔ ((μ : Row) → count_by (same_solution term_eq μ) A ≡ count_by (same_solution term_eq μ) B)

-- The maps that are built triple pattern by triple pattern are the maps that are found by trying
-- all.
abbrev pub BuiltIsTried : Type 0
BuiltIsTried = (w l : ℕ) (P : List (TriplePattern Term)) (G : List (Triple Term))
    → IsWithoutRepeats (same_triple_by term_eq) G
    → AreBelow w (w + l) P
    → IsSameBag (map (take w) (solve term_eq w P G (replicate (w + l) None)))
    (bgp term_eq w l P G)

-- The triple patterns of a pattern may be matched in any order.
abbrev pub PatternHasNoOrder : Type 0
PatternHasNoOrder = (w l : ℕ) (P Q : List (TriplePattern Term))
    → IsPermutation P Q
    → (G : List (Triple Term)) → bgp term_eq w l P G ≡ bgp term_eq w l Q G

-- A map may be extended over only the triples that agree with it.
abbrev pub ScanIsEnough : Type 0
ScanIsEnough = (w : ℕ) (t : TriplePattern Term) (m : Row) (S G : List (Triple Term))
    → IsPermutation S (filter (agrees_with term_eq w t m) G)
    → IsSameBag (filter_map (extend_by term_eq w t m) S) (filter_map (extend_by term_eq w t m) G)

-- A dataset is a set: only its quads matter, not their order or repeats.
abbrev pub DatasetIsSet : Type 0
DatasetIsSet = (w : ℕ) (D E : List QuadParts)
    → IsSameSet D E
    → (g : Option Term) (A : Algebra) → IsSameBag (eval w D g A) (eval w E g A)

-- The solutions of a closed tree are the same for every active graph.
abbrev pub ClosedIsEverywhere : Type 0
ClosedIsEverywhere = (w : ℕ) (D : List QuadParts) (g h : Option Term) (A : Algebra)
    → is_closed A ≡ true → eval w D g A ≡ eval w D h A

-- Under GRAPH with a variable, a join with a closed tree is a join after the names of the graphs.
abbrev pub ClosedIsJoinedOnce : Type 0
ClosedIsJoinedOnce = (w : ℕ) (D : List QuadParts) (v : ℕ) (A C : Algebra)
    → is_closed C ≡ true
    → in_graphs w D (each_graph v) (λ h. eval w D h (Join A C))
    ≡ join term_eq (in_graphs w D (each_graph v) (λ h. eval w D h A)) (eval w D None C)

-- Every operator makes equal multisets of equal multisets.
abbrev pub KeepsBags : (List Row → List Row) → Type 0
KeepsBags F = (A A' : List Row) → IsSameBag A A' → IsSameBag (F A) (F A')

-- the same of an operator on two multisets
abbrev pub KeepsBagsOfTwo : (List Row → List Row → List Row) → Type 0
KeepsBagsOfTwo F = (A A' B B' : List Row)
    → IsSameBag A A' → IsSameBag B B' → IsSameBag (F A B) (F A' B')

-- Join keeps equal multisets
abbrev pub JoinKeepsBags : Type 0
JoinKeepsBags = KeepsBagsOfTwo (join term_eq)

-- LeftJoin keeps equal multisets, whatever its condition is
abbrev pub LeftJoinKeepsBags : Type 0
LeftJoinKeepsBags = (keeps : Row → Bool) → KeepsBagsOfTwo (left_join term_eq keeps)

-- Minus keeps equal multisets
abbrev pub MinusKeepsBags : Type 0
MinusKeepsBags = KeepsBagsOfTwo (minus term_eq)

-- Union keeps equal multisets
abbrev pub UnionKeepsBags : Type 0
UnionKeepsBags = KeepsBagsOfTwo (λ A B. A ++ B)

-- Filter keeps equal multisets, whatever its condition is
abbrev pub FilterKeepsBags : Type 0
FilterKeepsBags = (keeps : Row → Bool) → KeepsBags (filter keeps)

-- Extend keeps equal multisets, whatever its expression is
abbrev pub ExtendKeepsBags : Type 0
ExtendKeepsBags = (v : ℕ) (value : Row → Option Term) → KeepsBags (extend v value)

-- Project keeps equal multisets
abbrev pub ProjectKeepsBags : Type 0
ProjectKeepsBags = (vs : List ℕ) → KeepsBags (project vs)

-- Distinct keeps equal multisets
abbrev pub DistinctKeepsBags : Type 0
DistinctKeepsBags = KeepsBags (distinct term_eq)

-- The solutions of VALUES depend only on the multiset of its rows.
abbrev pub TableKeepsBags : Type 0
TableKeepsBags = (w : ℕ) (vs : List ℕ) → KeepsBags (table w vs)

-- Numbers below n are read as terms, and distinct numbers as distinct terms.
abbrev pub IsReading : ℕ → (ℕ → Term) → Type 0
IsReading n f = (x y : ℕ) → x < n → y < n → f x ≡ f y → x ≡ y

-- Each number that a solution binds is below n.
abbrev pub AreInRange : ℕ → List (Solution ℕ) → Type 0
AreInRange n A = Each (EachBound (λ x. x < n)) A

-- numbered solutions, read as terms
abbrev pub read : (ℕ → Term) → List (Solution ℕ) → List Row
read f A = map (read_row f) A

-- An operator on numbers, read as terms, is the operator on the multisets that are read.
abbrev pub PatternIsRead : Type 0
PatternIsRead = (n : ℕ) (f : ℕ → Term)
    → IsReading n f
    → (w l : ℕ) (P : List (TriplePattern ℕ)) (G : List (Triple ℕ))
    → IsWithoutRepeats (same_triple_by nat_eq) G
    → AreBelow w (w + l) P
    → Each (EachOfPattern (λ x. x < n)) P
    → Each (EachOfTriple (λ x. x < n)) G
    → IsSameBag (read f (bgp nat_eq w l P G))
    (bgp term_eq w l (map (read_pattern f) P) (map (read_triple f) G))

-- Join of numbered solutions
abbrev pub JoinIsRead : Type 0
JoinIsRead = (n : ℕ) (f : ℕ → Term)
    → IsReading n f
    → (A B : List (Solution ℕ))
    → AreInRange n A
    → AreInRange n B
    → IsSameBag (read f (join nat_eq A B)) (join term_eq (read f A) (read f B))

-- LeftJoin of numbered solutions; the condition is that of the solutions that are read
abbrev pub LeftJoinIsRead : Type 0
LeftJoinIsRead = (n : ℕ) (f : ℕ → Term)
    → IsReading n f
    → (keeps : Row → Bool) (A B : List (Solution ℕ))
    → AreInRange n A
    → AreInRange n B
    → IsSameBag (read f (left_join nat_eq (λ μ. keeps (read_row f μ)) A B))
    (left_join term_eq keeps (read f A) (read f B))

-- Minus of numbered solutions
abbrev pub MinusIsRead : Type 0
MinusIsRead = (n : ℕ) (f : ℕ → Term)
    → IsReading n f
    → (A B : List (Solution ℕ))
    → AreInRange n A
    → AreInRange n B
    → IsSameBag (read f (minus nat_eq A B)) (minus term_eq (read f A) (read f B))

-- Union of numbered solutions
abbrev pub UnionIsRead : Type 0
UnionIsRead = (f : ℕ → Term) (A B : List (Solution ℕ))
    → IsSameBag (read f (A ++ B)) (read f A ++ read f B)

-- Filter of numbered solutions; the condition is that of the solutions that are read
abbrev pub FilterIsRead : Type 0
FilterIsRead = (f : ℕ → Term) (keeps : Row → Bool) (A : List (Solution ℕ))
    → IsSameBag (read f (filter (λ μ. keeps (read_row f μ)) A)) (filter keeps (read f A))

-- `number` gives the number of the value of each solution of A, and None for a solution without a
-- value
abbrev pub ExtendIsRead : Type 0
ExtendIsRead = (f : ℕ → Term) (number : Solution ℕ → Option ℕ) (value : Row → Option Term)
    → (v : ℕ) (A : List (Solution ℕ))
    → Each (λ μ. value (read_row f μ) ≡ option_map f (number μ)) A
    → IsSameBag (read f (extend v number A)) (extend v value (read f A))

-- Project of numbered solutions
abbrev pub ProjectIsRead : Type 0
ProjectIsRead = (f : ℕ → Term) (vs : List ℕ) (A : List (Solution ℕ))
    → IsSameBag (read f (project vs A)) (project vs (read f A))

-- Distinct of numbered solutions
abbrev pub DistinctIsRead : Type 0
DistinctIsRead = (n : ℕ) (f : ℕ → Term)
    → IsReading n f
    → (A : List (Solution ℕ))
    → AreInRange n A
    → IsSameBag (read f (distinct nat_eq A)) (distinct term_eq (read f A))

-- the rows of VALUES, as numbers
abbrev pub TableIsRead : Type 0
TableIsRead = (f : ℕ → Term) (w : ℕ) (vs : List ℕ) (rows : List (List (Option ℕ)))
    → IsSameBag (read f (table w vs rows)) (table w vs (read f rows))

-- LeftJoin may be evaluated solution by solution.
abbrev pub LeftJoinByRow : Type 0
LeftJoinByRow = (keeps : Row → Bool) (A B : List Row)
    → IsSameBag (flat_map (left_row term_eq keeps B) A) (left_join term_eq keeps A B)

-- A function of solutions, applied to the pieces of a list and concatenated, is the function
-- applied to the list.
abbrev pub PiecesJoin : Type 0
PiecesJoin = (f : Row → List Row) (pieces : List (List Row))
    → flat_map f (joined pieces) ≡ joined (map (flat_map f) pieces)

-- Solutions that bind all key variables, but not to the same terms, are incompatible.
abbrev pub KeysApart : Type 0
KeysApart = (vs : List ℕ) (μ ν : Row)
    → is_keyed vs μ ≡ true
    → is_keyed vs ν ≡ true
    → same_key term_eq vs μ ν ≡ false
    → is_compatible term_eq μ ν ≡ false

-- For a solution with a key, only the solutions that have the same key, or an unbound key variable,
-- must be compared.
abbrev pub CandidatesSuffice : Type 0
CandidatesSuffice = (vs : List ℕ) (μ : Row) (B : List Row)
    → is_keyed vs μ ≡ true
    → IsSameBag (merges term_eq μ (candidates term_eq vs μ B)) (merges term_eq μ B)

-- Solutions that are equal in the order of rows have the same row.
abbrev pub TiesAreEqual : Type 0
TiesAreEqual = (vs : List ℕ) (μ ν : Row) → row_cmp vs μ ν ≡ Equal → cells vs μ ≡ cells vs ν

-- The sorted rows are the rows, in ascending order.
abbrev pub SortedIsBag : Type 0
SortedIsBag = (vs : List ℕ) (A : List Row) → IsSameBag (map (cells vs) A) (sorted_rows vs A)

-- No row is before its predecessor in the order of rows.
abbrev pub SortedIsRising : Type 0
SortedIsRising = (vs : List ℕ) (A : List Row) → IsRising cells_cmp (sorted_rows vs A)

-- No other list of rows is the same multiset in ascending order.
abbrev pub SortedIsUnique : Type 0
SortedIsUnique = (vs : List ℕ) (A : List Row) (rows : List (List (Option Term)))
    → IsSameBag (map (cells vs) A) rows
    → IsRising cells_cmp rows
    → rows ≡ sorted_rows vs A

-- Equal multisets have one list of sorted rows.
abbrev pub BagHasOneList : Type 0
BagHasOneList = (vs : List ℕ) (A B : List Row)
    → IsSameBag A B → sorted_rows vs A ≡ sorted_rows vs B
