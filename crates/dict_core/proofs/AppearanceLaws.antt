-- First appearances are what inserting into an empty list leaves.
use Rattle.std.proofs.Common.{◌≡◌, ℕ, suc, ◌<◌, ◌≢◌, Bool, true, false, not, cond, ◌||◌, List, [], ◌∷◌, ◌++◌, length, filter, get_or, refl, sym, ap, ◌∙◌, if◌then◌else◌, append_assoc, arith}
use Rattle.std.proofs.lemmas.List.{append-nil}
use Rattle.std.proofs.lemmas.List.Folds.{list_any-append}
use Rattle.std.proofs.lemmas.List.Elements.{filter_agree}
use Rattle.std.specs.List.{list_any}
use Rattle.indexmap.specs.IndexSet.{insert_all}
use Rattle.rdf_core.specs.declared.term.Term.{Term}
use Rattle.rdf_core.proofs.TermLaws.{term_eq, term_eq_laws}
use Rattle.dict_core.specs.Dict.{AreDistinct}
use Rattle.dict_core.specs.Appearances.{first_appearances, differs_from}
use Rattle.dict_core.proofs.InsertLaws.{same, insert_all-append, insert_all-insert_all}

-- one filter after another
filter-filter : (p q : Term → Bool) (xs : List Term) → filter p (filter q xs) ≡ filter (λ x. cond (q x) (p x) false) xs
filter-filter p q [] = refl
filter-filter p q (x ∷ xs) = by (q x) (filter-filter p q xs)
  where
    by : (b : Bool) → filter p (filter q xs) ≡ filter (λ y. cond (q y) (p y) false) xs
        → filter p (cond b (x ∷ filter q xs) (filter q xs)) ≡ cond (cond b (p x) false) (x ∷ filter (λ y. cond (q y) (p y) false) xs) (filter (λ y. cond (q y) (p y) false) xs)
    by true e = ap (λ l. cond (p x) (x ∷ l) l) e
    by false e = e

abbrev absent_in : List Term → Term → Bool
absent_in ks u = not (list_any (term_eq u) ks)

-- of terms that are there already, none is kept twice
agree_there : (ks : List Term) (t u : Term) → list_any (term_eq t) ks ≡ true → cond (differs_from t u) (absent_in ks u) false ≡ absent_in ks u
agree_there ks t u h = by (term_eq t u) refl
  where
    by : (b : Bool) → term_eq t u ≡ b → cond (not b) (absent_in ks u) false ≡ absent_in ks u
    by true e = sym (ap not (sym (ap (λ v. list_any (term_eq v) ks) (same t u e)) ∙ h))
    by false e = refl

agree_new : (ks : List Term) (t u : Term) → absent_in (ks ++ t ∷ []) u ≡ cond (differs_from t u) (absent_in ks u) false
agree_new ks t u = ap not (list_any-append (term_eq u) ks (t ∷ [])) ∙ ap (λ b. not (list_any (term_eq u) ks || (b || false))) (term_eq_laws.symm u t) ∙ by (list_any (term_eq u) ks) (term_eq t u)
  where
    by : (a b : Bool) → not (a || (b || false)) ≡ cond (not b) (not a) false
    by true true = refl
    by true false = refl
    by false true = refl
    by false false = refl

inserted : (ks ts : List Term) → insert_all term_eq ks ts ≡ ks ++ filter (absent_in ks) (first_appearances ts)
inserted ks [] = sym (append-nil ks)
inserted ks (t ∷ ts) = by (list_any (term_eq t) ks) refl (inserted ks ts) (inserted (ks ++ t ∷ []) ts)
  where
    by : (b : Bool) → list_any (term_eq t) ks ≡ b
        → insert_all term_eq ks ts ≡ ks ++ filter (absent_in ks) (first_appearances ts)
        → insert_all term_eq (ks ++ t ∷ []) ts ≡ (ks ++ t ∷ []) ++ filter (absent_in (ks ++ t ∷ [])) (first_appearances ts)
        → insert_all term_eq (if b then ks else ks ++ t ∷ []) ts ≡ ks ++ cond (not b) (t ∷ filter (absent_in ks) (filter (differs_from t) (first_appearances ts))) (filter (absent_in ks) (filter (differs_from t) (first_appearances ts)))
    by true e there new =
        there ∙ ap (λ l. ks ++ l) (sym (filter-filter (absent_in ks) (differs_from t) (first_appearances ts)
        ∙ filter_agree (λ u. cond (differs_from t u) (absent_in ks u) false) (absent_in ks) (λ u. agree_there ks t u e) (first_appearances ts)))
    by false e there new =
        new ∙ append_assoc ks (t ∷ []) (filter (absent_in (ks ++ t ∷ [])) (first_appearances ts))
        ∙ ap (λ l. ks ++ t ∷ l) (filter_agree (absent_in (ks ++ t ∷ [])) (λ u. cond (differs_from t u) (absent_in ks u) false) (agree_new ks t) (first_appearances ts)
        ∙ sym (filter-filter (absent_in ks) (differs_from t) (first_appearances ts)))

none_left_out : (xs : List Term) → filter (absent_in []) xs ≡ xs
none_left_out [] = refl
none_left_out (x ∷ xs) = ap (λ l. x ∷ l) (none_left_out xs)

pub appearances : (ts : List Term) → first_appearances ts ≡ insert_all term_eq [] ts
appearances ts = sym (inserted [] ts ∙ none_left_out (first_appearances ts))

-- more terms after a list of which the first appearances are known
pub insert_all-appearances : (xs ys : List Term) → insert_all term_eq (first_appearances xs) ys ≡ first_appearances (xs ++ ys)
insert_all-appearances xs ys = ap (λ l. insert_all term_eq l ys) (appearances xs) ∙ sym (insert_all-append [] xs ys) ∙ sym (appearances (xs ++ ys))

-- appearances of appearances
once : (xs : List Term) → insert_all term_eq [] (first_appearances xs) ≡ first_appearances xs
once xs = ap (λ l. insert_all term_eq [] l) (appearances xs) ∙ insert_all-insert_all [] [] xs ∙ sym (appearances xs)

pub appearances_front : (xs ys : List Term) → first_appearances (first_appearances xs ++ ys) ≡ first_appearances (xs ++ ys)
appearances_front xs ys =
    appearances (first_appearances xs ++ ys)
    ∙ insert_all-append [] (first_appearances xs) ys
    ∙ ap (λ l. insert_all term_eq l ys) (once xs)
    ∙ insert_all-appearances xs ys

pub appearances_again : (xs ys : List Term) → first_appearances (first_appearances xs ++ first_appearances ys) ≡ first_appearances (xs ++ ys)
appearances_again xs ys =
    appearances_front xs (first_appearances ys)
    ∙ sym (insert_all-appearances xs (first_appearances ys))
    ∙ (λ i. insert_all term_eq (appearances xs i) (appearances ys i))
    ∙ insert_all-insert_all (insert_all term_eq [] xs) [] ys
    ∙ ap (λ l. insert_all term_eq l ys) (sym (appearances xs))
    ∙ insert_all-appearances xs ys

all_pass : (p : Term → Bool) (xs : List Term) → ((k : ℕ) (d : Term) → k < length xs → p (get_or xs k d) ≡ true) → filter p xs ≡ xs
all_pass p [] h = refl
all_pass p (x ∷ xs) h =
    ap (λ b. cond b (x ∷ filter p xs) (filter p xs)) (h 0 x (omega arith))
    ∙ ap (λ l. x ∷ l) (all_pass p xs (λ k d below. h (suc k) d (omega arith)))

differs : (t u : Term) → t ≢ u → differs_from t u ≡ true
differs t u apart = by (term_eq t u) refl
  where
    by : (b : Bool) → term_eq t u ≡ b → not b ≡ true
    by true e = absurd (apart (same t u e))
    by false e = refl

-- a list without repeats is its own first appearances
pub appearances_of_distinct : (ks : List Term) → AreDistinct ks → first_appearances ks ≡ ks
appearances_of_distinct [] apart = refl
appearances_of_distinct (k ∷ ks) apart =
    ap (λ l. k ∷ filter (differs_from k) l) (appearances_of_distinct ks (λ i j d before within. apart (suc i) (suc j) d (omega arith) (omega arith)))
    ∙ ap (λ l. k ∷ l) (all_pass (differs_from k) ks (λ j d below. differs k (get_or ks j d) (apart 0 (suc j) d (omega arith) (omega arith))))

-- absorbing into a list without repeats
pub absorbed_terms : (ks ls : List Term) → AreDistinct ks → insert_all term_eq ks ls ≡ first_appearances (ks ++ ls)
absorbed_terms ks ls apart = ap (λ l. insert_all term_eq l ls) (sym (appearances_of_distinct ks apart)) ∙ insert_all-appearances ks ls
