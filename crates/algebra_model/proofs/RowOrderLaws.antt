-- The orders of terms and of rows are total, and rows that compare as equal are the same.
use Rattle.std.proofs.Common.{◌≡◌, ℕ, List, [], ◌∷◌, Option, None, Some, refl, ap, subst, Ordering, Less, Equal, Greater, is_eq}
use Rattle.std.specs.Cmp.{IsTotalOrder}
use Rattle.std.specs.Cmp.Lexicographic.{options_total}
use Rattle.std.specs.Ordering.{ordering_then}
use Rattle.std.specs.Option.{option_cmp}
use Rattle.std.proofs.lemmas.Bool.{false≢true}
use Rattle.std.proofs.lemmas.Cmp.{lists_total, on_total}
use Rattle.std.proofs.lemmas.Map.Lookups.{exact_bytes}
use Rattle.rdf_core.specs.declared.term.Term.{Term}
use Rattle.rdf_core.specs.declared.term.Term.TheVariants.{Blank, Iri, Literal}
use Rattle.rdf_core.specs.contracts.term.TermOrd.TheImpl as ord
use Rattle.rdf_core.specs.contracts.term.TermOrd.TheImpl.Laws.{total-law}
use Rattle.rdf_core.specs.Order.{term_cmp, bytes_cmp, tag_cmp}
use Rattle.algebra_model.specs.Solution.{Solution}
use Rattle.algebra_model.specs.RowOrder.{cells, cells_cmp, row_cmp}

-- the order that the program derives is the order of the definitions
abbrev pub derived : Term → Term → Ordering
derived = (ord.ghosts).cmp

then_Equal : (r : Ordering) → ordering_then r Equal ≡ r
then_Equal Less = refl
then_Equal Equal = refl
then_Equal Greater = refl

tags_cmp : (t u : Option (List ℕ)) → option_cmp bytes_cmp t u ≡ tag_cmp t u
tags_cmp None None = refl
tags_cmp None (Some y) = refl
tags_cmp (Some x) None = refl
tags_cmp (Some x) (Some y) = refl

pub derived-is : (x y : Term) → derived x y ≡ term_cmp x y
derived-is (Blank x) (Blank y) = refl
derived-is (Blank x) (Iri y) = refl
derived-is (Blank x) (Literal f d t) = refl
derived-is (Iri x) (Blank y) = refl
derived-is (Iri x) (Iri y) = refl
derived-is (Iri x) (Literal f d t) = refl
derived-is (Literal f d t) (Blank y) = refl
derived-is (Literal f d t) (Iri y) = refl
derived-is (Literal f d t) (Literal g e u) = ap (λ o. ordering_then (bytes_cmp f g) (ordering_then (bytes_cmp d e) o)) (tags_cmp t u)

pub term_cmp_total : IsTotalOrder term_cmp
term_cmp_total = subst IsTotalOrder (λ i x y. derived-is x y i) total-law

pub then_equal : (r s : Ordering) → ordering_then r s ≡ Equal → (r ≡ Equal) × (s ≡ Equal)
then_equal Less s e = absurd (false≢true (ap is_eq e))
then_equal Equal s e = (refl, e)
then_equal Greater s e = absurd (false≢true (ap is_eq e))

tags_equal : (x y : Option (List ℕ)) → tag_cmp x y ≡ Equal → x ≡ y
tags_equal None None e = refl
tags_equal None (Some y) e = absurd (false≢true (ap is_eq e))
tags_equal (Some x) None e = absurd (false≢true (ap is_eq e))
tags_equal (Some x) (Some y) e = ap Some (exact_bytes x y e)

pub terms_equal : (x y : Term) → term_cmp x y ≡ Equal → x ≡ y
terms_equal (Blank x) (Blank y) e = ap Blank (exact_bytes x y e)
terms_equal (Blank x) (Iri y) e = absurd (false≢true (ap is_eq e))
terms_equal (Blank x) (Literal f d t) e = absurd (false≢true (ap is_eq e))
terms_equal (Iri x) (Blank y) e = absurd (false≢true (ap is_eq e))
terms_equal (Iri x) (Iri y) e = ap Iri (exact_bytes x y e)
terms_equal (Iri x) (Literal f d t) e = absurd (false≢true (ap is_eq e))
terms_equal (Literal f d t) (Blank y) e = absurd (false≢true (ap is_eq e))
terms_equal (Literal f d t) (Iri y) e = absurd (false≢true (ap is_eq e))
terms_equal (Literal f d t) (Literal g h u) e =
    let a = then_equal _ _ e in
    let b = then_equal _ _ a.1 in
    λ i. Literal (exact_bytes f g a.0 i) (exact_bytes d h b.0 i) (tags_equal t u b.1 i)

pub cells_cmp_total : IsTotalOrder cells_cmp
cells_cmp_total = lists_total (options_total term_cmp_total)

cell_equal : (x y : Option Term) → option_cmp term_cmp x y ≡ Equal → x ≡ y
cell_equal None None e = refl
cell_equal None (Some y) e = absurd (false≢true (ap is_eq e))
cell_equal (Some x) None e = absurd (false≢true (ap is_eq e))
cell_equal (Some x) (Some y) e = ap Some (terms_equal x y e)

pub cells_equal : (x y : List (Option Term)) → cells_cmp x y ≡ Equal → x ≡ y
cells_equal [] [] e = refl
cells_equal [] (y ∷ ys) e = absurd (false≢true (ap is_eq e))
cells_equal (x ∷ xs) [] e = absurd (false≢true (ap is_eq e))
cells_equal (x ∷ xs) (y ∷ ys) e = let a = then_equal _ _ e in λ i. cell_equal x y a.0 i ∷ cells_equal xs ys a.1 i

pub row_cmp_total : (vs : List ℕ) → IsTotalOrder (row_cmp vs)
row_cmp_total vs = on_total (cells vs) cells_cmp_total

-- solutions that compare as equal have the same row
pub rows_equal : (vs : List ℕ) (μ ν : Solution Term) → row_cmp vs μ ν ≡ Equal → cells vs μ ≡ cells vs ν
rows_equal vs μ ν e = cells_equal (cells vs μ) (cells vs ν) e
