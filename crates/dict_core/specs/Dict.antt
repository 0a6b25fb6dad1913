-- A dictionary: distinct terms, each numbered by its place from 0 (a choice of this project; RDF 1.1 Concepts,
-- section 3, says when two terms are the same).
use Rattle.std.specs.Prelude.{◌≡◌, ◌≢◌, ℕ, List, [], ◌++◌, slice_get, Some}
use Rattle.std.specs.List.{AllPairs, AllZip, slice_index_or}
use Rattle.rdf_core.specs.declared.term.Term.{Term}
use Rattle.rdf_core.specs.declared.term.Term.TheVariants.{Blank}

-- no term occurs twice
abbrev pub AreDistinct : List Term → Type 0
AreDistinct terms = AllPairs (λ x y. x ≢ y) terms

-- the term of a number; the blank node without a label if the number is past the end and is that of
-- no term
abbrev pub term_at : List Term → ℕ → Term
term_at dict n = slice_index_or dict n (Blank [])

-- the k-th number is the number of the k-th term
abbrev pub AreNumbersOf : List Term → List Term → List ℕ → Type 0
AreNumbersOf dict terms numbers = AllZip (λ t n. slice_get dict n ≡ Some t) terms numbers

-- the later list is the earlier one with more terms after it
abbrev pub IsGrown : List Term → List Term → Type 0
IsGrown earlier later = (more : List Term) × (later ≡ earlier ++ more)
