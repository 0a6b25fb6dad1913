-- Inserting into a list of distinct terms, one after the other.
use Rattle.std.proofs.Common.{◌≡◌, ℕ, zero, suc, ◌+◌, Bool, true, false, not, cond, ◌||◌, List, [], ◌∷◌, ◌++◌, Some, slice_get, refl, sym, ap, ◌∙◌, subst, true≢false, if◌then◌else◌, append_assoc, arith}
use Rattle.std.proofs.lemmas.List.{append-nil}
use Rattle.std.proofs.lemmas.List.Folds.{list_any-append}
use Rattle.std.proofs.lemmas.Option.{slice_get_within}
use Rattle.std.specs.List.{list_any, position_or_len}
use Rattle.indexmap.specs.IndexSet.{insert_key, insert_all}
use Rattle.rdf_core.specs.declared.term.Term.{Term}
use Rattle.rdf_core.proofs.TermLaws.{term_eq, term_decides, term_eq_laws}
use Rattle.dict_core.specs.Dict.{IsGrown}

pub same : (x y : Term) → term_eq x y ≡ true → x ≡ y
same x y e = (term_decides x y).0 e

pub own : (x : Term) → term_eq x x ≡ true
own x = term_eq_laws.refl x

pub insert_key-present : (ks : List Term) (x : Term) → list_any (term_eq x) ks ≡ true → insert_key term_eq ks x ≡ ks
insert_key-present ks x h = ap (λ b. if b then ks else ks ++ x ∷ []) h

pub insert_key-absent : (ks : List Term) (x : Term) → list_any (term_eq x) ks ≡ false → insert_key term_eq ks x ≡ ks ++ x ∷ []
insert_key-absent ks x h = ap (λ b. if b then ks else ks ++ x ∷ []) h

any-append_left : (x : Term) (ks ls : List Term) → list_any (term_eq x) ks ≡ true → list_any (term_eq x) (ks ++ ls) ≡ true
any-append_left x ks ls h = list_any-append (term_eq x) ks ls ∙ ap (λ b. b || list_any (term_eq x) ls) h

-- what is there stays
pub any-insert_key : (ks : List Term) (z x : Term) → list_any (term_eq x) ks ≡ true → list_any (term_eq x) (insert_key term_eq ks z) ≡ true
any-insert_key ks z x h = by (list_any (term_eq z) ks)
  where
    by : (b : Bool) → list_any (term_eq x) (if b then ks else ks ++ z ∷ []) ≡ true
    by true = h
    by false = any-append_left x ks (z ∷ []) h

pub any-insert_all : (ks zs : List Term) (x : Term) → list_any (term_eq x) ks ≡ true → list_any (term_eq x) (insert_all term_eq ks zs) ≡ true
any-insert_all ks [] x h = h
any-insert_all ks (z ∷ zs) x h = any-insert_all (insert_key term_eq ks z) zs x (any-insert_key ks z x h)

any-last : (ks : List Term) (x : Term) → list_any (term_eq x) (ks ++ x ∷ []) ≡ true
any-last [] x = ap (λ b. b || list_any (term_eq x) []) (own x)
any-last (k ∷ ks) x = by (term_eq x k) (any-last ks x)
  where
    by : (b : Bool) → list_any (term_eq x) (ks ++ x ∷ []) ≡ true → (b || list_any (term_eq x) (ks ++ x ∷ [])) ≡ true
    by true e = refl
    by false e = e

-- what was inserted is there
pub any-inserted : (ks : List Term) (x : Term) → list_any (term_eq x) (insert_key term_eq ks x) ≡ true
any-inserted ks x = by (list_any (term_eq x) ks) refl
  where
    by : (b : Bool) → list_any (term_eq x) ks ≡ b → list_any (term_eq x) (if b then ks else ks ++ x ∷ []) ≡ true
    by true e = e
    by false e = any-last ks x

pub any-all_inserted : (ks ls : List Term) (x : Term) → list_any (term_eq x) ls ≡ true → list_any (term_eq x) (insert_all term_eq ks ls) ≡ true
any-all_inserted ks [] x h = absurd (true≢false (sym h))
any-all_inserted ks (l ∷ ls) x h = by (term_eq x l) refl (any-all_inserted (insert_key term_eq ks l) ls x)
  where
    by : (b : Bool) → term_eq x l ≡ b → (list_any (term_eq x) ls ≡ true → list_any (term_eq x) (insert_all term_eq (insert_key term_eq ks l) ls) ≡ true)
        → list_any (term_eq x) (insert_all term_eq (insert_key term_eq ks l) ls) ≡ true
    by true e rest = any-insert_all (insert_key term_eq ks l) ls x (subst (λ y. list_any (term_eq x) (insert_key term_eq ks y) ≡ true) (same x l e) (any-inserted ks x))
    by false e rest = rest (sym (ap (λ b. b || list_any (term_eq x) ls) e) ∙ h)

pub insert_all-append : (ks xs ys : List Term) → insert_all term_eq ks (xs ++ ys) ≡ insert_all term_eq (insert_all term_eq ks xs) ys
insert_all-append ks [] ys = refl
insert_all-append ks (x ∷ xs) ys = insert_all-append (insert_key term_eq ks x) xs ys

insert_all-insert_key : (ks ls : List Term) (y : Term) → insert_all term_eq ks (insert_key term_eq ls y) ≡ insert_key term_eq (insert_all term_eq ks ls) y
insert_all-insert_key ks ls y = by (list_any (term_eq y) ls) refl
  where
    by : (b : Bool) → list_any (term_eq y) ls ≡ b → insert_all term_eq ks (if b then ls else ls ++ y ∷ []) ≡ insert_key term_eq (insert_all term_eq ks ls) y
    by true e = sym (insert_key-present (insert_all term_eq ks ls) y (any-all_inserted ks ls y e))
    by false e = insert_all-append ks ls (y ∷ [])

-- inserting what a list has by first appearance is inserting the list
pub insert_all-insert_all : (ks ls ys : List Term) → insert_all term_eq ks (insert_all term_eq ls ys) ≡ insert_all term_eq (insert_all term_eq ks ls) ys
insert_all-insert_all ks ls [] = refl
insert_all-insert_all ks ls (y ∷ ys) = insert_all-insert_all ks (insert_key term_eq ls y) ys ∙ ap (λ l. insert_all term_eq l ys) (insert_all-insert_key ks ls y)

-- a dictionary that grows keeps its numbers
abbrev pub Keeps : List Term → List Term → Type 0
Keeps earlier later = (n : ℕ) (t : Term) → slice_get earlier n ≡ Some t → slice_get later n ≡ Some t

get-append_left : (ks ls : List Term) → Keeps ks (ks ++ ls)
get-append_left [] ls n t h = let w = slice_get_within [] n t h in absurd (omega (arith, w))
get-append_left (k ∷ ks) ls zero t h = h
get-append_left (k ∷ ks) ls (suc n) t h = get-append_left ks ls n t h

pub get-grown : (earlier later : List Term) → IsGrown earlier later → Keeps earlier later
get-grown earlier later grown n t h = subst (λ l. slice_get l n ≡ Some t) (sym grown.1) (get-append_left earlier grown.0 n t h)

pub get-insert_key : (ks : List Term) (z : Term) → Keeps ks (insert_key term_eq ks z)
get-insert_key ks z n t h = by (list_any (term_eq z) ks)
  where
    by : (b : Bool) → slice_get (if b then ks else ks ++ z ∷ []) n ≡ Some t
    by true = h
    by false = get-append_left ks (z ∷ []) n t h

pub get-insert_all : (ks zs : List Term) → Keeps ks (insert_all term_eq ks zs)
get-insert_all ks [] n t h = h
get-insert_all ks (z ∷ zs) n t h = get-insert_all (insert_key term_eq ks z) zs n t (get-insert_key ks z n t h)

grown_once : (ks : List Term) (z : Term) → IsGrown ks (insert_key term_eq ks z)
grown_once ks z = by (list_any (term_eq z) ks)
  where
    by : (b : Bool) → IsGrown ks (if b then ks else ks ++ z ∷ [])
    by true = ([], sym (append-nil ks))
    by false = (z ∷ [], refl)

pub grown : (ks zs : List Term) → IsGrown ks (insert_all term_eq ks zs)
grown ks [] = ([], sym (append-nil ks))
grown ks (z ∷ zs) =
    let a = grown_once ks z in
    let b = grown (insert_key term_eq ks z) zs in
    (a.0 ++ b.0, b.1 ∙ ap (λ l. l ++ b.0) a.1 ∙ append_assoc ks a.0 b.0)

-- what has a number is there
pub any-from_get : (ks : List Term) → (n : ℕ) (t : Term) → slice_get ks n ≡ Some t → list_any (term_eq t) ks ≡ true
any-from_get [] n t h = let w = slice_get_within [] n t h in absurd (omega (arith, w))
any-from_get (k ∷ ks) zero t h =
    let e : k ≡ t = cc in
    ap (λ b. b || list_any (term_eq t) ks) (ap (λ x. term_eq t x) e ∙ own t)
any-from_get (k ∷ ks) (suc n) t h = by (term_eq t k) (any-from_get ks n t h)
  where
    by : (b : Bool) → list_any (term_eq t) ks ≡ true → (b || list_any (term_eq t) ks) ≡ true
    by true e = refl
    by false e = e

-- the place of a term that is there
pub at-position : (D : List Term) (t : Term) → list_any (term_eq t) D ≡ true → slice_get D (position_or_len (term_eq t) D) ≡ Some t
at-position [] t h = absurd (true≢false (sym h))
at-position (d ∷ D) t h = by (term_eq t d) refl (at-position D t)
  where
    by : (b : Bool) → term_eq t d ≡ b → (list_any (term_eq t) D ≡ true → slice_get D (position_or_len (term_eq t) D) ≡ Some t)
        → slice_get (d ∷ D) (cond (not b) (1 + position_or_len (term_eq t) D) 0) ≡ Some t
    by true e rest = ap Some (sym (same t d e))
    by false e rest =
        let n : suc (position_or_len (term_eq t) D) ≡ 1 + position_or_len (term_eq t) D = omega arith in
        subst (λ m. slice_get (d ∷ D) m ≡ Some t) n (rest (sym (ap (λ b. b || list_any (term_eq t) D) e) ∙ h))

position-last : (p : Term → Bool) (ks : List Term) (x : Term) → p x ≡ true → position_or_len p (ks ++ x ∷ []) ≡ position_or_len p ks
position-last p [] x h = ap (λ b. cond (not b) (1 + 0) 0) h
position-last p (k ∷ ks) x h = ap (λ (n : ℕ). cond (not (p k)) (1 + n) 0) (position-last p ks x h)

position-inserted : (D : List Term) (x : Term) → position_or_len (term_eq x) (insert_key term_eq D x) ≡ position_or_len (term_eq x) D
position-inserted D x = by (list_any (term_eq x) D)
  where
    by : (b : Bool) → position_or_len (term_eq x) (if b then D else D ++ x ∷ []) ≡ position_or_len (term_eq x) D
    by true = refl
    by false = position-last (term_eq x) D x (own x)

-- the place that an insertion returns
pub get-inserted : (D : List Term) (x : Term) → slice_get (insert_key term_eq D x) (position_or_len (term_eq x) D) ≡ Some x
get-inserted D x = subst (λ m. slice_get (insert_key term_eq D x) m ≡ Some x) (position-inserted D x) (at-position (insert_key term_eq D x) x (any-inserted D x))
