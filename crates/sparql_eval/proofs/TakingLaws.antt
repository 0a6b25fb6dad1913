-- The terms that are added to a dictionary.
use Rattle.std.proofs.Common.{◌≡◌, ℕ, zero, suc, ◌<◌, ◌⊎◌, inl, inr, ⊎_elim, Bool, true, false, cond, if◌then◌else◌, List, [], ◌∷◌, ◌++◌, filter, take, slice_get, Option, Some, Result, Ok, Err, OnOk, Contains, sym, ap, ◌∙◌, subst, arith}
use Rattle.std.specs.List.{flat_map, list_any}
use Rattle.std.proofs.lemmas.List.Elements.{Contains-append_left, Contains-append_right, Contains-append_cases, Contains-push_cases}
use Rattle.std.proofs.lemmas.Option.{slice_get_within, get_or_from_slice_get}
use Rattle.rdf_core.specs.declared.term.Term.{Term}
use Rattle.rdf_core.proofs.TermLaws.{term_eq}
use Rattle.dict_core.specs.Appearances.{first_appearances, differs_from}
use Rattle.dict_core.proofs.MergingSteps.{interned}
use Rattle.sparql_eval.specs.Computed.{TakesOnly}

pub takes_none : (W : Term → Type 0) (a : List Term) → TakesOnly W a a
takes_none W a t h = inl h

pub takes_twice : (W : Term → Type 0) (a b c : List Term) → TakesOnly W a b → TakesOnly W b c → TakesOnly W a c
takes_twice W a b c first next t h = ⊎_elim (first t) inr (next t h)

pub takes_more : (V W : Term → Type 0) (a b : List Term) → ((t : Term) → V t → W t) → TakesOnly V a b → TakesOnly W a b
takes_more V W a b wider only t h = ⊎_elim inl (λ v. inr (wider t v)) (only t h)

-- ---- elements of a list

pub Contains-none : {X : Type 0} (x : X) → Contains [] x → ⊥
Contains-none x h = absurd (omega (arith, h.1))

Contains-first : {X : Type 0} (x : X) (xs : List X) (y : X) → x ≡ y → Contains (x ∷ xs) y
Contains-first x xs y e = (0, omega arith, e)

Contains-later : {X : Type 0} (x : X) (xs : List X) (y : X) → Contains xs y → Contains (x ∷ xs) y
Contains-later x xs y h = Contains-append_right (x ∷ []) xs y h

Contains-cases : {X : Type 0} (x : X) (xs : List X) (y : X) → Contains (x ∷ xs) y → (x ≡ y) ⊎ Contains xs y
Contains-cases x xs y h =
    ⊎_elim (λ a. ⊎_elim (λ none. absurd (Contains-none y none)) inl (Contains-push_cases [] x y a)) inr (Contains-append_cases (x ∷ []) xs y h)

Contains-filter : {X : Type 0} (p : X → Bool) (xs : List X) (y : X) → Contains (filter p xs) y → Contains xs y
Contains-filter p [] y h = h
Contains-filter p (x ∷ xs) y h = by (p x) (Contains-filter p xs y) h
  where
    by : (b : Bool) → (Contains (filter p xs) y → Contains xs y) → Contains (cond b (x ∷ filter p xs) (filter p xs)) y → Contains (x ∷ xs) y
    by true up h = ⊎_elim (Contains-first x xs y) (λ r. Contains-later x xs y (up r)) (Contains-cases x (filter p xs) y h)
    by false up h = Contains-later x xs y (up h)

-- an element at a place that `take` keeps
pub Contains-take : {X : Type 0} (n : ℕ) (xs : List X) (i : ℕ) (x : X) → i < n → slice_get xs i ≡ Some x → Contains (take n xs) x
Contains-take n xs i x low e =
    let at = taken n xs i x low e in
    (i, slice_get_within (take n xs) i x at, get_or_from_slice_get (take n xs) i x x at)
  where
    taken : {X : Type 0} (n : ℕ) (xs : List X) (i : ℕ) (x : X) → i < n → slice_get xs i ≡ Some x → slice_get (take n xs) i ≡ Some x
    taken zero xs i x low e = absurd (omega arith)
    taken (suc n) [] i x low e = cc
    taken (suc n) (y ∷ xs) zero x low e = e
    taken (suc n) (y ∷ xs) (suc i) x low e = taken n xs i x (omega arith) e

pub Contains-flat_map : {X Y : Type 0} (f : X → List Y) (xs : List X) (i : ℕ) (x : X) (y : Y) → slice_get xs i ≡ Some x → Contains (f x) y → Contains (flat_map f xs) y
Contains-flat_map f [] i x y e h = cc
Contains-flat_map f (z ∷ xs) zero x y e h =
    let p : z ≡ x = cc in
    Contains-append_left (f z) (flat_map f xs) y (subst (λ w. Contains (f w) y) (sym p) h)
Contains-flat_map f (z ∷ xs) (suc i) x y e h = Contains-append_right (f z) (flat_map f xs) y (Contains-flat_map f xs i x y e h)

-- ---- added terms

-- a term that was added
pub takes_interned : (old new : List Term) (t : Term) → (Contains old t → new ≡ old) → ((Contains old t → ⊥) → new ≡ old ++ t ∷ []) → TakesOnly (λ u. u ≡ t) old new
takes_interned old new t known fresh = by (list_any (term_eq t) old) (interned old new t known fresh)
  where
    by : (b : Bool) → new ≡ (if b then old else old ++ t ∷ []) → TakesOnly (λ u. u ≡ t) old new
    by true e u h = inl (subst (λ l. Contains l u) e h)
    by false e u h = ⊎_elim inl (λ (is : t ≡ u). inr (sym is)) (Contains-push_cases old t u (subst (λ l. Contains l u) e h))

-- the same for a term equal to it
pub takes_same : (s t : Term) (a b : List Term) → s ≡ t → TakesOnly (λ u. u ≡ s) a b → TakesOnly (λ u. u ≡ t) a b
takes_same s t a b e only = takes_more (λ u. u ≡ s) (λ u. u ≡ t) a b (λ u is. is ∙ e) only

-- the same for a value that is the term
pub takes_value : (value : Option Term) (t : Term) (a b : List Term) → value ≡ Some t → TakesOnly (λ u. u ≡ t) a b → TakesOnly (λ u. value ≡ Some u) a b
takes_value value t a b e only = takes_more (λ u. u ≡ t) (λ u. value ≡ Some u) a b (λ u is. e ∙ ap Some (sym is)) only

-- the same if nothing was added on error
pub took_same : {X E : Type 0} (r : Result X E) (s t : Term) (a b : List Term) → s ≡ t → OnOk r (TakesOnly (λ u. u ≡ s) a b) → OnOk r (TakesOnly (λ u. u ≡ t) a b)
took_same (Ok x) s t a b e only = takes_same s t a b e only
took_same (Err x) s t a b e only = only

pub took_value : {X E : Type 0} (r : Result X E) (value : Option Term) (t : Term) (a b : List Term) → value ≡ Some t → OnOk r (TakesOnly (λ u. u ≡ t) a b) → OnOk r (TakesOnly (λ u. value ≡ Some u) a b)
took_value (Ok x) value t a b e only = takes_value value t a b e only
took_value (Err x) value t a b e only = only

first_there : (ts : List Term) (t : Term) → Contains (first_appearances ts) t → Contains ts t
first_there [] t h = h
first_there (x ∷ ts) t h =
    let rest = filter (differs_from x) (first_appearances ts) in
    ⊎_elim (Contains-first x ts t) (λ r. Contains-later x ts t (first_there ts t (Contains-filter (differs_from x) (first_appearances ts) t r)))
    (Contains-cases x rest t h)

-- merging another dictionary adds only the terms of that dictionary
pub takes_absorbed : (old own new : List Term) → new ≡ first_appearances (old ++ own) → TakesOnly (Contains own) old new
takes_absorbed old own new e t h = Contains-append_cases old own t (first_there (old ++ own) t (subst (λ l. Contains l t) e h))
