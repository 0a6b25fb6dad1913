-- Operators on solutions need only the solutions that fit restrictions: the others do not change which results fit.
use Rattle.std.proofs.Common.{◌≡◌, ℕ, zero, suc, Bool, true, false, cond, ◌&&◌, ◌||◌, not, List, [], ◌∷◌, ◌++◌, get_or, map, filter, flat_map, Option, None, Some, refl, sym, ap, ◌∙◌, subst}
use Rattle.std.specs.List.{list_any, list_all}
use Rattle.std.proofs.lemmas.Bool.{false≢true, and_parts, and_from, false_from_ne_true}
use Rattle.std.proofs.lemmas.List.Elements.{filter-append}
use Rattle.std.proofs.lemmas.List.Sorted.{IsPermutation-append}
use Rattle.rdf_core.specs.declared.term.Term.{Term}
use Rattle.rdf_core.proofs.TermLaws.{term_eq, term_decides}
use Rattle.algebra_model.specs.Bag.{IsSameBag}
use Rattle.algebra_model.specs.Operators.{bind, extend, join, left_join, merges, minus, share}
use Rattle.algebra_model.specs.Renaming.{Each}
use Rattle.algebra_model.specs.Solution.{Solution, agree, bound_or, is_compatible, merge}
use Rattle.algebra_model.specs.Solve.{alone}
use Rattle.algebra_model.proofs.BagLaws.{list_all-IsPermutation}
use Rattle.algebra_model.proofs.CongruenceLaws.{extend-IsSameBag, filter-IsSameBag, join-IsSameBag}
use Rattle.algebra_model.proofs.KeyLaws.{agree_at, list_all-of_filter, merges-of_filter}
use Rattle.algebra_model.proofs.RangeLaws.{Each-flat_map}
use Rattle.needed_quads.specs.Restriction.{Restriction, fits, is_unbound_or_among}

-- A solution whose variables have RDF terms.
abbrev pub Row : Type 0
Row = Solution Term

-- The place is bound to one of the terms.
abbrev pub is_bound_among : Option Term → List Term → Bool
is_bound_among None terms = false
is_bound_among (Some t) terms = list_any (term_eq t) terms

-- Each variable has one of its terms in the solution.
abbrev pub holds_of : List Restriction → Row → Bool
holds_of X μ = list_all (λ r. is_bound_among (get_or μ r.variable None) r.terms) X

-- In each solution of the list each variable has one of its terms.
abbrev pub AreHeld : List Restriction → List Row → Type 0
AreHeld X A = list_all (holds_of X) A ≡ true

-- The solutions that fit are the same multiset in both lists.
abbrev pub AreAlikeFor : List Restriction → List Row → List Row → Type 0
AreAlikeFor R A B = IsSameBag (filter (fits R) A) (filter (fits R) B)

-- ---- tests of all elements

-- If each element that passes one test passes another, then a list that passes the first test passes the second one.
all-weaker : {X : Type 0} (p q : X → Bool) → ((x : X) → p x ≡ true → q x ≡ true) → (xs : List X) → list_all p xs ≡ true → list_all q xs ≡ true
all-weaker p q f [] h = refl
all-weaker p q f (x ∷ xs) h =
    let b = and_parts (p x) (list_all p xs) h in
    and_from (q x) (list_all q xs) (f x b.0) (all-weaker p q f xs b.1)

-- Two lists pass if each of them passes.
all-append : {X : Type 0} (p : X → Bool) (xs ys : List X) → list_all p (xs ++ ys) ≡ (list_all p xs && list_all p ys)
all-append p [] ys = refl
all-append p (x ∷ xs) ys = ap (λ b. p x && b) (all-append p xs ys) ∙ regroup (p x) (list_all p xs) (list_all p ys)
  where
    regroup : (a b c : Bool) → (a && (b && c)) ≡ ((a && b) && c)
    regroup true b c = refl
    regroup false b c = refl

-- A test that all elements pass is a fact of each element.
each-from_all : {X : Type 0} (p : X → Bool) (xs : List X) → list_all p xs ≡ true → Each (λ x. p x ≡ true) xs
each-from_all p [] h = tt
each-from_all p (x ∷ xs) h = let b = and_parts (p x) (list_all p xs) h in (b.0, each-from_all p xs b.1)

-- A fact of each element is a test that all elements pass.
all-from_each : {X : Type 0} (p : X → Bool) (xs : List X) → Each (λ x. p x ≡ true) xs → list_all p xs ≡ true
all-from_each p [] h = refl
all-from_each p (x ∷ xs) h = and_from (p x) (list_all p xs) h.0 (all-from_each p xs h.1)

-- What follows from a fact of an element is true of each element.
Each-weaker : {X : Type 0} (P Q : X → Type 0) → ((x : X) → P x → Q x) → (xs : List X) → Each P xs → Each Q xs
Each-weaker P Q f [] h = tt
Each-weaker P Q f (x ∷ xs) h = (f x h.0, Each-weaker P Q f xs h.1)

-- ---- filters

-- A filter leaves out an element that does not pass.
filter-no : {X : Type 0} (p : X → Bool) (x : X) (xs : List X) → p x ≡ false → filter p (x ∷ xs) ≡ filter p xs
filter-no p x xs e = ap (λ b. cond b (x ∷ filter p xs) (filter p xs)) e

-- Two tests that agree on each element keep the same elements.
filter-same : {X : Type 0} (p q : X → Bool) (xs : List X) → Each (λ x. p x ≡ q x) xs → filter p xs ≡ filter q xs
filter-same p q [] h = refl
filter-same p q (x ∷ xs) h = λ i. cond (h.0 i) (x ∷ filter-same p q xs h.1 i) (filter-same p q xs h.1 i)

-- Two filters may be applied in either order.
filter-swap : {X : Type 0} (p q : X → Bool) (xs : List X) → filter p (filter q xs) ≡ filter q (filter p xs)
filter-swap p q [] = refl
filter-swap {X} p q (x ∷ xs) = by (p x) (q x) refl refl (filter-swap p q xs)
  where
    kept : (t : X → Bool) (ys : List X) → t x ≡ true → filter t (x ∷ ys) ≡ x ∷ filter t ys
    kept t ys e = ap (λ b. cond b (x ∷ filter t ys) (filter t ys)) e

    by : (a b : Bool) → p x ≡ a → q x ≡ b → filter p (filter q xs) ≡ filter q (filter p xs)
        → filter p (cond b (x ∷ filter q xs) (filter q xs)) ≡ filter q (cond a (x ∷ filter p xs) (filter p xs))
    by true true e f i = kept p (filter q xs) e ∙ ap (λ l. x ∷ l) i ∙ sym (kept q (filter p xs) f)
    by true false e f i = i ∙ sym (filter-no q x (filter p xs) f)
    by false true e f i = filter-no p x (filter q xs) e ∙ i
    by false false e f i = i

-- A filter of concatenated lists filters each of them.
pub filter-flat_map : {X Y : Type 0} (p : Y → Bool) (f : X → List Y) (xs : List X) → filter p (flat_map f xs) ≡ flat_map (λ x. filter p (f x)) xs
filter-flat_map p f [] = refl
filter-flat_map p f (x ∷ xs) = filter-append p (f x) (flat_map f xs) ∙ ap (λ l. filter p (f x) ++ l) (filter-flat_map p f xs)

-- Two functions that agree on each element give the same concatenated lists.
flat_map-same : {X Y : Type 0} (f g : X → List Y) (xs : List X) → Each (λ x. f x ≡ g x) xs → flat_map f xs ≡ flat_map g xs
flat_map-same f g [] h = refl
flat_map-same f g (x ∷ xs) h = λ i. h.0 i ++ flat_map-same f g xs h.1 i

-- Elements that give an empty list may be left out.
flat_map-of_filter : {X Y : Type 0} (q : X → Bool) (f : X → List Y) → ((x : X) → q x ≡ false → f x ≡ []) → (xs : List X) → flat_map f (filter q xs) ≡ flat_map f xs
flat_map-of_filter q f out [] = refl
flat_map-of_filter {X} {Y} q f out (x ∷ xs) = by (q x) refl (flat_map-of_filter q f out xs)
  where
    by : (b : Bool) → q x ≡ b → flat_map f (filter q xs) ≡ flat_map f xs → flat_map f (cond b (x ∷ filter q xs) (filter q xs)) ≡ f x ++ flat_map f xs
    by true e i = ap (λ l. f x ++ l) i
    by false e i = i ∙ sym (ap (λ l. l ++ flat_map f xs) (out x e))

-- Elements whose values do not pass may be left out.
map-of_filter : {X Y : Type 0} (p : Y → Bool) (q : X → Bool) (f : X → Y) → ((x : X) → q x ≡ false → p (f x) ≡ false) → (xs : List X) → filter p (map f (filter q xs)) ≡ filter p (map f xs)
map-of_filter p q f out [] = refl
map-of_filter {X} {Y} p q f out (x ∷ xs) = by (q x) refl (map-of_filter p q f out xs)
  where
    by : (b : Bool) → q x ≡ b → filter p (map f (filter q xs)) ≡ filter p (map f xs)
        → filter p (map f (cond b (x ∷ filter q xs) (filter q xs))) ≡ cond (p (f x)) (f x ∷ filter p (map f xs)) (filter p (map f xs))
    by true e i = λ j. cond (p (f x)) (f x ∷ i j) (i j)
    by false e i = i ∙ sym (filter-no p (f x) (map f xs) (out x e))

-- Two lists are the same multiset if they equal lists that are.
between : {X : Type 0} (xs ys us vs : List X) → xs ≡ us → ys ≡ vs → IsSameBag us vs → IsSameBag xs ys
between xs ys us vs e f h = subst (λ l. IsSameBag l ys) (sym e) (subst (λ l. IsSameBag us l) (sym f) h)

-- ---- one place of a solution

-- A merge binds a place as the first solution does, or else as the second one does.
get-merge : {T : Type 0} (μ ν : Solution T) (k : ℕ) → get_or (merge μ ν) k None ≡ bound_or (get_or μ k None) (get_or ν k None)
get-merge [] ν k = refl
get-merge {T} (x ∷ μ) [] k = by (get_or (x ∷ μ) k None)
  where
    by : (y : Option T) → y ≡ bound_or y None
    by None = refl
    by (Some y) = refl
get-merge (x ∷ μ) (y ∷ ν) zero = refl
get-merge (x ∷ μ) (y ∷ ν) (suc k) = get-merge μ ν k

module _ (terms : List Term) where
  -- If a merge fits at a place, then its first solution fits there.
  first_fits : (x y : Option Term) → is_unbound_or_among (bound_or x y) terms ≡ true → is_unbound_or_among x terms ≡ true
  first_fits None y h = refl
  first_fits (Some s) y h = h

  -- If a merge of compatible solutions fits at a place, then its second solution fits there.
  second_fits : (x y : Option Term) → agree term_eq x y ≡ true → is_unbound_or_among (bound_or x y) terms ≡ true → is_unbound_or_among y terms ≡ true
  second_fits None None a h = refl
  second_fits None (Some t) a h = h
  second_fits (Some s) None a h = refl
  second_fits (Some s) (Some t) a h = subst (λ u. list_any (term_eq u) terms ≡ true) ((term_decides s t).0 a) h

  -- If the first solution is bound to one of the terms, then so is the merge.
  first_holds : (x y : Option Term) → is_bound_among x terms ≡ true → is_bound_among (bound_or x y) terms ≡ true
  first_holds None y h = absurd (false≢true h)
  first_holds (Some s) y h = h

  -- If the second solution is bound to one of the terms, then so is the merge of compatible solutions.
  second_holds : (x y : Option Term) → agree term_eq x y ≡ true → is_bound_among y terms ≡ true → is_bound_among (bound_or x y) terms ≡ true
  second_holds None y a h = h
  second_holds (Some s) None a h = absurd (false≢true h)
  second_holds (Some s) (Some t) a h = subst (λ u. list_any (term_eq u) terms ≡ true) (sym ((term_decides s t).0 a)) h

  -- A place that is bound to one of the terms fits.
  bound_fits : (x : Option Term) → is_bound_among x terms ≡ true → is_unbound_or_among x terms ≡ true
  bound_fits None h = refl
  bound_fits (Some s) h = h

  -- A solution that fits at a place after a variable is bound fits there before.
  unbind_fits : (v : ℕ) (t : Option Term) (μ : Row) (k : ℕ) → is_unbound_or_among (get_or (bind v t μ) k None) terms ≡ true → is_unbound_or_among (get_or μ k None) terms ≡ true
  unbind_fits v t [] k h = refl
  unbind_fits zero t (None ∷ μ) zero h = refl
  unbind_fits zero t (None ∷ μ) (suc k) h = h
  unbind_fits zero t (Some x ∷ μ) k h = h
  unbind_fits (suc v) t (x ∷ μ) zero h = h
  unbind_fits (suc v) t (x ∷ μ) (suc k) h = unbind_fits v t μ k h

-- ---- one solution

-- The solution fits one restriction.
abbrev fits_at : Row → Restriction → Bool
fits_at μ r = is_unbound_or_among (get_or μ r.variable None) r.terms

-- The variable of the restriction has one of its terms in the solution.
abbrev holds_at : Row → Restriction → Bool
holds_at μ r = is_bound_among (get_or μ r.variable None) r.terms

-- If a merge fits, then its first solution fits.
fits-first : (R : List Restriction) (μ ν : Row) → fits R (merge μ ν) ≡ true → fits R μ ≡ true
fits-first R μ ν =
    all-weaker (fits_at (merge μ ν)) (fits_at μ)
    (λ r h. first_fits r.terms (get_or μ r.variable None) (get_or ν r.variable None) (subst (λ x. is_unbound_or_among x r.terms ≡ true) (get-merge μ ν r.variable) h)) R

-- If a merge of compatible solutions fits, then its second solution fits.
pub fits-second : (R : List Restriction) (μ ν : Row) → is_compatible term_eq μ ν ≡ true → fits R (merge μ ν) ≡ true → fits R ν ≡ true
fits-second R μ ν c =
    all-weaker (fits_at (merge μ ν)) (fits_at ν)
    (λ r h. second_fits r.terms (get_or μ r.variable None) (get_or ν r.variable None) (agree_at term_eq μ ν c r.variable)
    (subst (λ x. is_unbound_or_among x r.terms ≡ true) (get-merge μ ν r.variable) h)) R

-- Restrictions that hold of the first solution hold of the merge.
holds-first : (X : List Restriction) (μ ν : Row) → holds_of X μ ≡ true → holds_of X (merge μ ν) ≡ true
holds-first X μ ν =
    all-weaker (holds_at μ) (holds_at (merge μ ν))
    (λ r h. subst (λ x. is_bound_among x r.terms ≡ true) (sym (get-merge μ ν r.variable)) (first_holds r.terms (get_or μ r.variable None) (get_or ν r.variable None) h)) X

-- Restrictions that hold of the second solution hold of the merge of compatible solutions.
holds-second : (X : List Restriction) (μ ν : Row) → is_compatible term_eq μ ν ≡ true → holds_of X ν ≡ true → holds_of X (merge μ ν) ≡ true
holds-second X μ ν c =
    all-weaker (holds_at ν) (holds_at (merge μ ν))
    (λ r h. subst (λ x. is_bound_among x r.terms ≡ true) (sym (get-merge μ ν r.variable))
    (second_holds r.terms (get_or μ r.variable None) (get_or ν r.variable None) (agree_at term_eq μ ν c r.variable) h)) X

-- The restrictions of both solutions hold of their merge, if they are compatible.
holds-merge : (X Y : List Restriction) (μ ν : Row) → is_compatible term_eq μ ν ≡ true → holds_of X μ ≡ true → holds_of Y ν ≡ true → holds_of (X ++ Y) (merge μ ν) ≡ true
holds-merge X Y μ ν c a b =
    all-append (holds_at (merge μ ν)) X Y
    ∙ and_from (holds_of X (merge μ ν)) (holds_of Y (merge μ ν)) (holds-first X μ ν a) (holds-second Y μ ν c b)

-- A solution fits restrictions that hold of it.
holds-fits : (X : List Restriction) (μ : Row) → holds_of X μ ≡ true → fits X μ ≡ true
holds-fits X μ = all-weaker (holds_at μ) (fits_at μ) (λ r h. bound_fits r.terms (get_or μ r.variable None) h) X

-- Restrictions that hold of a solution make no difference to whether it fits.
fits-more : (R Z : List Restriction) (μ : Row) → holds_of Z μ ≡ true → fits R μ ≡ fits (R ++ Z) μ
fits-more R Z μ h = sym (all-append (fits_at μ) R Z ∙ ap (λ b. fits R μ && b) (holds-fits Z μ h) ∙ and_true (fits R μ))
  where
    and_true : (b : Bool) → (b && true) ≡ b
    and_true true = refl
    and_true false = refl

-- If restrictions hold of a solution, then a solution that does not fit them is not compatible with it.
unfit-incompatible : (X : List Restriction) (μ ν : Row) → holds_of X μ ≡ true → fits X ν ≡ false → is_compatible term_eq μ ν ≡ false
unfit-incompatible X μ ν a e =
    false_from_ne_true (is_compatible term_eq μ ν)
    (λ c. false≢true (sym e ∙ fits-second X μ ν c (holds-fits X (merge μ ν) (holds-first X μ ν a))))

-- A merge of a solution that does not fit does not fit.
merge-unfit : (R : List Restriction) (μ ν : Row) → fits R μ ≡ false → fits R (merge μ ν) ≡ false
merge-unfit R μ ν e = false_from_ne_true (fits R (merge μ ν)) (λ h. false≢true (sym e ∙ fits-first R μ ν h))

-- A solution that does not fit does not fit after a variable is bound.
bind-unfit : (R : List Restriction) (v : ℕ) (t : Option Term) (μ : Row) → fits R μ ≡ false → fits R (bind v t μ) ≡ false
bind-unfit R v t μ e =
    false_from_ne_true (fits R (bind v t μ))
    (λ h. false≢true (sym e ∙ all-weaker (fits_at (bind v t μ)) (fits_at μ) (λ r k. unbind_fits r.terms v t μ r.variable k) R h))

-- ---- restrictions that hold of joined solutions

-- The restrictions hold of the solution.
abbrev IsHeld : List Restriction → Row → Type 0
IsHeld X μ = holds_of X μ ≡ true

-- The restrictions of both sides hold of each merge with one solution.
merges-held : (X Y : List Restriction) (μ : Row) → IsHeld X μ → (B : List Row) → Each (IsHeld Y) B → Each (IsHeld (X ++ Y)) (merges term_eq μ B)
merges-held X Y μ a [] k = tt
merges-held X Y μ a (ν ∷ B) k = by (is_compatible term_eq μ ν) refl (merges-held X Y μ a B k.1)
  where
    by : (c : Bool) → is_compatible term_eq μ ν ≡ c → Each (IsHeld (X ++ Y)) (merges term_eq μ B)
        → Each (IsHeld (X ++ Y)) (map (merge μ) (cond c (ν ∷ filter (is_compatible term_eq μ) B) (filter (is_compatible term_eq μ) B)))
    by true e more = (holds-merge X Y μ ν e a k.0, more)
    by false e more = more

-- The restrictions of both lists hold of each joined solution.
join-held : (X Y : List Restriction) (A B : List Row) → AreHeld X A → AreHeld Y B → Each (IsHeld (X ++ Y)) (join term_eq A B)
join-held X Y A B h k =
    let b = each-from_all (holds_of Y) B k in
    Each-flat_map (IsHeld X) (IsHeld (X ++ Y)) (λ μ. merges term_eq μ B) (λ μ a. merges-held X Y μ a B b) A (each-from_all (holds_of X) A h)

-- The restrictions of both lists hold of the joined solutions.
pub held-join : (X Y : List Restriction) (A B : List Row) → AreHeld X A → AreHeld Y B → AreHeld (X ++ Y) (join term_eq A B)
held-join X Y A B h k = all-from_each (holds_of (X ++ Y)) (join term_eq A B) (join-held X Y A B h k)

-- ---- joins

-- A filter keeps no merge of a solution that does not fit.
unfit-first : (R : List Restriction) (μ : Row) → fits R μ ≡ false → (B : List Row) → filter (fits R) (map (merge μ) B) ≡ []
unfit-first R μ e [] = refl
unfit-first R μ e (ν ∷ B) = filter-no (fits R) (merge μ ν) (map (merge μ) B) (merge-unfit R μ ν e) ∙ unfit-first R μ e B

-- Solutions that do not fit may be left out of the first list.
join-first : (R : List Restriction) (A B : List Row) → filter (fits R) (join term_eq (filter (fits R) A) B) ≡ filter (fits R) (join term_eq A B)
join-first R A B =
    filter-flat_map (fits R) (λ μ. merges term_eq μ B) (filter (fits R) A)
    ∙ flat_map-of_filter (fits R) (λ μ. filter (fits R) (merges term_eq μ B)) (λ μ e. unfit-first R μ e (filter (is_compatible term_eq μ) B)) A
    ∙ sym (filter-flat_map (fits R) (λ μ. merges term_eq μ B) A)

-- Solutions that do not fit may be left out of those that are merged with one solution.
merges-second : (R : List Restriction) (μ : Row) (B : List Row) → filter (fits R) (merges term_eq μ (filter (fits R) B)) ≡ filter (fits R) (merges term_eq μ B)
merges-second R μ [] = refl
merges-second R μ (ν ∷ B) = by (fits R ν) refl (merges-second R μ B)
  where
    more : (c : Bool) → filter (fits R) (merges term_eq μ (filter (fits R) B)) ≡ filter (fits R) (merges term_eq μ B)
        → filter (fits R) (map (merge μ) (cond c (ν ∷ filter (is_compatible term_eq μ) (filter (fits R) B)) (filter (is_compatible term_eq μ) (filter (fits R) B))))
        ≡ filter (fits R) (map (merge μ) (cond c (ν ∷ filter (is_compatible term_eq μ) B) (filter (is_compatible term_eq μ) B)))
    more true i = λ j. cond (fits R (merge μ ν)) (merge μ ν ∷ i j) (i j)
    more false i = i

    out : (c : Bool) → is_compatible term_eq μ ν ≡ c → fits R ν ≡ false
        → filter (fits R) (map (merge μ) (cond c (ν ∷ filter (is_compatible term_eq μ) B) (filter (is_compatible term_eq μ) B))) ≡ filter (fits R) (merges term_eq μ B)
    out true c e =
        filter-no (fits R) (merge μ ν) (merges term_eq μ B)
        (false_from_ne_true (fits R (merge μ ν)) (λ h. false≢true (sym e ∙ fits-second R μ ν c h)))
    out false c e = refl

    by : (b : Bool) → fits R ν ≡ b → filter (fits R) (merges term_eq μ (filter (fits R) B)) ≡ filter (fits R) (merges term_eq μ B)
        → filter (fits R) (merges term_eq μ (cond b (ν ∷ filter (fits R) B) (filter (fits R) B))) ≡ filter (fits R) (merges term_eq μ (ν ∷ B))
    by true e i = more (is_compatible term_eq μ ν) i
    by false e i = i ∙ sym (out (is_compatible term_eq μ ν) refl e)

-- Solutions that do not fit may be left out of the second list.
join-second : (R : List Restriction) (A B : List Row) → filter (fits R) (join term_eq A (filter (fits R) B)) ≡ filter (fits R) (join term_eq A B)
join-second R A B =
    filter-flat_map (fits R) (λ μ. merges term_eq μ (filter (fits R) B)) A
    ∙ (λ i. flat_map (λ μ. merges-second R μ B i) A)
    ∙ sym (filter-flat_map (fits R) (λ μ. merges term_eq μ B) A)

-- Joined solutions that fit are merges of solutions that fit. They also fit the restrictions of both lists.
join-fitting : (R X Y : List Restriction) (A B : List Row) → AreHeld X A → AreHeld Y B
    → filter (fits R) (join term_eq A B)
    ≡ filter (fits (R ++ (X ++ Y))) (join term_eq (filter (fits (R ++ (X ++ Y))) A) (filter (fits (R ++ (X ++ Y))) B))
join-fitting R X Y A B h k =
    let S : List Restriction = R ++ (X ++ Y) in
    filter-same (fits R) (fits S) (join term_eq A B)
    (Each-weaker (IsHeld (X ++ Y)) (λ μ. fits R μ ≡ fits S μ) (λ μ e. fits-more R (X ++ Y) μ e) (join term_eq A B) (join-held X Y A B h k))
    ∙ sym (join-first S A B)
    ∙ sym (join-second S (filter (fits S) A) B)

-- A join needs only the solutions that fit the restrictions and those of both lists.
pub restrict-join : (R X Y : List Restriction) (A A' B B' : List Row)
    → AreHeld X A → AreHeld X A' → AreHeld Y B → AreHeld Y B'
    → AreAlikeFor (R ++ (X ++ Y)) A A' → AreAlikeFor (R ++ (X ++ Y)) B B'
    → AreAlikeFor R (join term_eq A B) (join term_eq A' B')
restrict-join R X Y A A' B B' a a' b b' h k =
    let p : Row → Bool = fits (R ++ (X ++ Y)) in
    between (filter (fits R) (join term_eq A B)) (filter (fits R) (join term_eq A' B'))
    (filter p (join term_eq (filter p A) (filter p B))) (filter p (join term_eq (filter p A') (filter p B')))
    (join-fitting R X Y A B a b) (join-fitting R X Y A' B' a' b')
    (filter-IsSameBag term_eq term_decides p (join term_eq (filter p A) (filter p B)) (join term_eq (filter p A') (filter p B'))
    (join-IsSameBag term_eq term_decides (filter p A) (filter p A') (filter p B) (filter p B') h k))

-- ---- union, filter, extend

-- A union needs only the solutions that fit.
pub restrict-union : (R : List Restriction) (A A' B B' : List Row)
    → AreAlikeFor R A A' → AreAlikeFor R B B' → AreAlikeFor R (A ++ B) (A' ++ B')
restrict-union R A A' B B' h k =
    let p : Row → Bool = fits R in
    between (filter p (A ++ B)) (filter p (A' ++ B')) (filter p A ++ filter p B) (filter p A' ++ filter p B')
    (filter-append p A B) (filter-append p A' B')
    (IsPermutation-append (filter p A) (filter p A') (filter p B) (filter p B') h k)

-- A filter needs only the solutions that fit.
pub restrict-filter : (R : List Restriction) (keeps : Row → Bool) (A A' : List Row)
    → AreAlikeFor R A A' → AreAlikeFor R (filter keeps A) (filter keeps A')
restrict-filter R keeps A A' h =
    let p : Row → Bool = fits R in
    between (filter p (filter keeps A)) (filter p (filter keeps A')) (filter keeps (filter p A)) (filter keeps (filter p A'))
    (filter-swap p keeps A) (filter-swap p keeps A')
    (filter-IsSameBag term_eq term_decides keeps (filter p A) (filter p A') h)

-- Extended solutions that fit are made from solutions that fit.
extend-fitting : (R : List Restriction) (v : ℕ) (value : Row → Option Term) (A : List Row)
    → filter (fits R) (extend v value (filter (fits R) A)) ≡ filter (fits R) (extend v value A)
extend-fitting R v value A = map-of_filter (fits R) (fits R) (λ μ. bind v (value μ) μ) (λ μ e. bind-unfit R v (value μ) μ e) A

-- Extend needs only the solutions that fit.
pub restrict-extend : (R : List Restriction) (v : ℕ) (value : Row → Option Term) (A A' : List Row)
    → AreAlikeFor R A A' → AreAlikeFor R (extend v value A) (extend v value A')
restrict-extend R v value A A' h =
    let p : Row → Bool = fits R in
    between (filter p (extend v value A)) (filter p (extend v value A'))
    (filter p (extend v value (filter p A))) (filter p (extend v value (filter p A')))
    (sym (extend-fitting R v value A)) (sym (extend-fitting R v value A'))
    (filter-IsSameBag term_eq term_decides p (extend v value (filter p A)) (extend v value (filter p A'))
    (extend-IsSameBag v value (filter p A) (filter p A') h))

-- ---- a second list of which only the solutions that fit the restrictions of the first list are needed

-- Joined solutions that fit are merges of these solutions.
join-against : (R X : List Restriction) (A B : List Row) → AreHeld X A
    → filter (fits R) (join term_eq A B) ≡ filter (fits R) (join term_eq (filter (fits R) A) (filter (fits X) B))
join-against R X A B h =
    ap (filter (fits R))
    (sym (flat_map-same (λ μ. merges term_eq μ (filter (fits X) B)) (λ μ. merges term_eq μ B) A
    (Each-weaker (IsHeld X) (λ μ. merges term_eq μ (filter (fits X) B) ≡ merges term_eq μ B)
    (λ μ a. merges-of_filter term_eq μ (fits X) (λ ν e. unfit-incompatible X μ ν a e) B) A (each-from_all (holds_of X) A h))))
    ∙ sym (join-first R A (filter (fits X) B))

-- A join needs only these solutions.
restrict-join_against : (R X : List Restriction) (A A' B B' : List Row) → AreHeld X A → AreHeld X A'
    → AreAlikeFor R A A' → AreAlikeFor X B B' → AreAlikeFor R (join term_eq A B) (join term_eq A' B')
restrict-join_against R X A A' B B' a a' h k =
    let p : Row → Bool = fits R in
    let q : Row → Bool = fits X in
    between (filter p (join term_eq A B)) (filter p (join term_eq A' B'))
    (filter p (join term_eq (filter p A) (filter q B))) (filter p (join term_eq (filter p A') (filter q B')))
    (join-against R X A B a) (join-against R X A' B' a')
    (filter-IsSameBag term_eq term_decides p (join term_eq (filter p A) (filter q B)) (join term_eq (filter p A') (filter q B'))
    (join-IsSameBag term_eq term_decides (filter p A) (filter p A') (filter q B) (filter q B') h k))

-- `t` is a test of a solution of each list. Incompatible solutions pass it.
module _ (t : Row → Row → Bool) (passes : (μ ν : Row) → is_compatible term_eq μ ν ≡ false → t μ ν ≡ true) where
  -- Only the solutions of the second list that fit the restrictions of the first list need to be tested.
  passing-fitting : (R X : List Restriction) (A B : List Row) → AreHeld X A
      → filter (fits R) (filter (λ μ. list_all (t μ) B) A) ≡ filter (λ μ. list_all (t μ) (filter (fits X) B)) (filter (fits R) A)
  passing-fitting R X A B h =
      ap (filter (fits R))
      (filter-same (λ μ. list_all (t μ) B) (λ μ. list_all (t μ) (filter (fits X) B)) A
      (Each-weaker (IsHeld X) (λ μ. list_all (t μ) B ≡ list_all (t μ) (filter (fits X) B))
      (λ μ a. sym (list_all-of_filter term_eq μ (fits X) (λ ν e. unfit-incompatible X μ ν a e) (t μ) (passes μ) B)) A (each-from_all (holds_of X) A h)))
      ∙ filter-swap (fits R) (λ μ. list_all (t μ) (filter (fits X) B)) A

  -- A filter by the test needs only these solutions.
  restrict-passing : (R X : List Restriction) (A A' B B' : List Row) → AreHeld X A → AreHeld X A'
      → AreAlikeFor R A A' → AreAlikeFor X B B'
      → AreAlikeFor R (filter (λ μ. list_all (t μ) B) A) (filter (λ μ. list_all (t μ) B') A')
  restrict-passing R X A A' B B' a a' h k =
      let p : Row → Bool = fits R in
      let q : Row → Bool = fits X in
      between (filter p (filter (λ μ. list_all (t μ) B) A)) (filter p (filter (λ μ. list_all (t μ) B') A'))
      (filter (λ μ. list_all (t μ) (filter q B)) (filter p A)) (filter (λ μ. list_all (t μ) (filter q B')) (filter p A'))
      (passing-fitting R X A B a) (passing-fitting R X A' B' a')
      (subst (λ (s : Row → Bool). IsSameBag (filter (λ μ. list_all (t μ) (filter q B)) (filter p A)) (filter s (filter p A')))
      (λ i μ. list_all-IsPermutation (t μ) (filter q B) (filter q B') k i)
      (filter-IsSameBag term_eq term_decides (λ μ. list_all (t μ) (filter q B)) (filter p A) (filter p A') h))

-- Minus needs only the solutions that fit, and of the second list those that fit the restrictions of the first list.
pub restrict-minus : (R X : List Restriction) (A A' B B' : List Row)
    → AreHeld X A → AreHeld X A'
    → AreAlikeFor R A A' → AreAlikeFor X B B'
    → AreAlikeFor R (minus term_eq A B) (minus term_eq A' B')
restrict-minus R X A A' B B' a a' h k =
    restrict-passing (λ μ ν. not (is_compatible term_eq μ ν) || not (share μ ν)) (λ μ ν e. ap (λ b. not b || not (share μ ν)) e) R X A A' B B' a a' h k

-- LeftJoin needs only the same solutions.
pub restrict-left_join : (R X : List Restriction) (keeps : Row → Bool) (A A' B B' : List Row)
    → AreHeld X A → AreHeld X A'
    → AreAlikeFor R A A' → AreAlikeFor X B B'
    → AreAlikeFor R (left_join term_eq keeps A B) (left_join term_eq keeps A' B')
restrict-left_join R X keeps A A' B B' a a' h k =
    restrict-union R (filter keeps (join term_eq A B)) (filter keeps (join term_eq A' B')) (filter (alone term_eq keeps B) A) (filter (alone term_eq keeps B') A')
    (restrict-filter R keeps (join term_eq A B) (join term_eq A' B') (restrict-join_against R X A A' B B' a a' h k))
    (restrict-passing (λ μ ν. not (is_compatible term_eq μ ν && keeps (merge μ ν))) (λ μ ν e. ap (λ b. not (b && keeps (merge μ ν))) e) R X A A' B B' a a' h k)

-- ---- no restrictions

-- Every solution fits an empty list of restrictions.
all-fit : (A : List Row) → filter (fits []) A ≡ A
all-fit [] = refl
all-fit (μ ∷ A) = ap (λ l. μ ∷ l) (all-fit A)

-- Without restrictions the whole lists are the same multiset.
pub fits-nil : (A B : List Row) → AreAlikeFor [] A B → IsSameBag A B
fits-nil A B h = between A B (filter (fits []) A) (filter (fits []) B) (sym (all-fit A)) (sym (all-fit B)) h
