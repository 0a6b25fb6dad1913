-- What is true of each term that the solutions bind is true after every operator.
use Rattle.std.proofs.Common.{◌≡◌, ℕ, zero, suc, ◌<◌, Bool, true, false, cond, not, ◌||◌, ◌==◌, List, [], ◌∷◌, ◌++◌, length, get_or, set, replicate, map, filter, flat_map, Option, None, Some, Contains, if◌then◌else◌, refl, subst, arith}
use Rattle.std.specs.List.{list_any, list_all}
use Rattle.std.proofs.lemmas.List.Sorted.{Contains-permutation, IsPermutation-sym}
use Rattle.algebra_model.specs.Bag.{IsSameBag, without_repeats}
use Rattle.algebra_model.specs.Solution.{Solution, is_compatible, merge}
use Rattle.algebra_model.specs.Operators.{join, merges, left_join, minus, share, extend, bind, project, restrict, table, table_row}
use Rattle.algebra_model.specs.Renaming.{Each, EachBound}
use Rattle.algebra_model.specs.Solve.{alone}

module _ {X : Type 0} (P : X → Type 0) where
  pub Each-append : (xs ys : List X) → Each P xs → Each P ys → Each P (xs ++ ys)
  Each-append [] ys h k = k
  Each-append (x ∷ xs) ys h k = (h.0, Each-append xs ys h.1 k)

  pub Each-filter : (q : X → Bool) (xs : List X) → Each P xs → Each P (filter q xs)
  Each-filter q [] h = tt
  Each-filter q (x ∷ xs) h = elim (q x) as (λ b. Each P (cond b (x ∷ filter q xs) (filter q xs))) [ true ↦ (h.0, Each-filter q xs h.1) | false ↦ Each-filter q xs h.1 ]

  pub Each-without_repeats : (same : X → X → Bool) (xs : List X) → Each P xs → Each P (without_repeats same xs)
  Each-without_repeats same [] h = tt
  Each-without_repeats same (x ∷ xs) h = (h.0, Each-filter (λ y. not (same x y)) (without_repeats same xs) (Each-without_repeats same xs h.1))

  Each-at : (xs : List X) (x : X) (k : ℕ) → k < length xs → get_or xs k x ≡ x → Each P xs → P x
  Each-at [] x k l e h = absurd (omega arith)
  Each-at (y ∷ xs) x zero l e h = subst P e h.0
  Each-at (y ∷ xs) x (suc k) l e h = Each-at xs x k (omega arith) e h.1

  pub Each-contained : (xs : List X) → ((x : X) → Contains xs x → P x) → Each P xs
  Each-contained [] h = tt
  Each-contained (x ∷ xs) h = (h x (0, omega arith, refl), Each-contained xs (λ y c. h y (suc c.0, omega (arith, c.1), c.2)))

  -- of each element of a multiset, in any order
  pub Each-IsSameBag : (xs ys : List X) → IsSameBag xs ys → Each P xs → Each P ys
  Each-IsSameBag xs ys e h = Each-contained ys (λ x c. let d = Contains-permutation ys xs x (IsPermutation-sym xs ys e) c in Each-at xs x d.0 d.1 d.2 h)

module _ {X Y : Type 0} (P : X → Type 0) (Q : Y → Type 0) where
  pub Each-map : (f : X → Y) → ((x : X) → P x → Q (f x)) → (xs : List X) → Each P xs → Each Q (map f xs)
  Each-map f g [] h = tt
  Each-map f g (x ∷ xs) h = (g x h.0, Each-map f g xs h.1)

  pub Each-flat_map : (f : X → List Y) → ((x : X) → P x → Each Q (f x)) → (xs : List X) → Each P xs → Each Q (flat_map f xs)
  Each-flat_map f g [] h = tt
  Each-flat_map f g (x ∷ xs) h = Each-append Q (f x) (flat_map f xs) (g x h.0) (Each-flat_map f g xs h.1)

-- P of the term, if there is one
abbrev pub OfOption : {A : Type 0} → (A → Type 0) → Option A → Type 0
OfOption P None = Unit {0}
OfOption P (Some x) = P x

module _ {A : Type 0} (P : A → Type 0) where
  pub merge-bound : (μ ν : Solution A) → EachBound P μ → EachBound P ν → EachBound P (merge μ ν)
  merge-bound [] ν h k = k
  merge-bound (x ∷ μ) [] h k = h
  merge-bound (None ∷ μ) (None ∷ ν) h k = merge-bound μ ν h k
  merge-bound (None ∷ μ) (Some y ∷ ν) h k = (k.0, merge-bound μ ν h k.1)
  merge-bound (Some x ∷ μ) (None ∷ ν) h k = (h.0, merge-bound μ ν h.1 k)
  merge-bound (Some x ∷ μ) (Some y ∷ ν) h k = (h.0, merge-bound μ ν h.1 k.1)

  pub bind-bound : (v : ℕ) (t : Option A) (μ : Solution A) → OfOption P t → EachBound P μ → EachBound P (bind v t μ)
  bind-bound v t [] i h = tt
  bind-bound zero None (None ∷ μ) i h = h
  bind-bound zero (Some x) (None ∷ μ) i h = (i, h)
  bind-bound zero t (Some x ∷ μ) i h = h
  bind-bound (suc v) t (None ∷ μ) i h = bind-bound v t μ i h
  bind-bound (suc v) t (Some x ∷ μ) i h = (h.0, bind-bound v t μ i h.1)

  pub set-bound : (μ : Solution A) (v : ℕ) (t : Option A) → OfOption P t → EachBound P μ → EachBound P (set μ v t)
  set-bound [] v t i h = tt
  set-bound (None ∷ μ) zero None i h = h
  set-bound (None ∷ μ) zero (Some x) i h = (i, h)
  set-bound (Some y ∷ μ) zero None i h = h.1
  set-bound (Some y ∷ μ) zero (Some x) i h = (i, h.1)
  set-bound (None ∷ μ) (suc v) t i h = set-bound μ v t i h
  set-bound (Some y ∷ μ) (suc v) t i h = (h.0, set-bound μ v t i h.1)

  pub restrict-bound : (keeps : ℕ → Bool) (μ : Solution A) → EachBound P μ → EachBound P (restrict keeps μ)
  restrict-bound keeps [] h = tt
  restrict-bound keeps (None ∷ μ) h = none (keeps 0) (restrict-bound (λ k. keeps (suc k)) μ h)
    where
      none : (b : Bool) → EachBound P (restrict (λ k. keeps (suc k)) μ) → EachBound P ((if b then None else None) ∷ restrict (λ k. keeps (suc k)) μ)
      none true i = i
      none false i = i
  restrict-bound keeps (Some x ∷ μ) h = some (keeps 0) (restrict-bound (λ k. keeps (suc k)) μ h.1)
    where
      some : (b : Bool) → EachBound P (restrict (λ k. keeps (suc k)) μ) → EachBound P ((if b then Some x else None) ∷ restrict (λ k. keeps (suc k)) μ)
      some true i = (h.0, i)
      some false i = i

  pub unbound-bound : (n : ℕ) → EachBound P (replicate n None)
  unbound-bound zero = tt
  unbound-bound (suc n) = unbound-bound n

  pub table_row-bound : (w : ℕ) (vs : List ℕ) (cells : List (Option A)) → EachBound P cells → EachBound P (table_row w vs cells)
  table_row-bound w [] cells h = unbound-bound w
  table_row-bound w (v ∷ vs) [] h = unbound-bound w
  table_row-bound w (v ∷ vs) (None ∷ cells) h = set-bound (table_row w vs cells) v None tt (table_row-bound w vs cells h)
  table_row-bound w (v ∷ vs) (Some x ∷ cells) h = set-bound (table_row w vs cells) v (Some x) h.0 (table_row-bound w vs cells h.1)

  pub extend-bound : (v : ℕ) (value : Solution A → Option A) → ((μ : Solution A) → EachBound P μ → OfOption P (value μ)) → (L : List (Solution A)) → Each (EachBound P) L → Each (EachBound P) (extend v value L)
  extend-bound v value g L h = Each-map (EachBound P) (EachBound P) (λ μ. bind v (value μ) μ) (λ μ i. bind-bound v (value μ) μ (g μ i) i) L h

  pub project-bound : (vs : List ℕ) (L : List (Solution A)) → Each (EachBound P) L → Each (EachBound P) (project vs L)
  project-bound vs L h = Each-map (EachBound P) (EachBound P) (restrict (λ v. list_any (λ u. u == v) vs)) (λ μ i. restrict-bound (λ v. list_any (λ u. u == v) vs) μ i) L h

  pub table-bound : (w : ℕ) (vs : List ℕ) (rows : List (List (Option A))) → Each (EachBound P) rows → Each (EachBound P) (table w vs rows)
  table-bound w vs rows h = Each-map (EachBound P) (EachBound P) (table_row w vs) (λ r i. table_row-bound w vs r i) rows h

  module _ (same : A → A → Bool) where
    pub merges-bound : (μ : Solution A) (R : List (Solution A)) → EachBound P μ → Each (EachBound P) R → Each (EachBound P) (merges same μ R)
    merges-bound μ R h k = Each-map (EachBound P) (EachBound P) (merge μ) (λ ν i. merge-bound μ ν h i) (filter (is_compatible same μ) R) (Each-filter (EachBound P) (is_compatible same μ) R k)

    pub join-bound : (L R : List (Solution A)) → Each (EachBound P) L → Each (EachBound P) R → Each (EachBound P) (join same L R)
    join-bound L R h k = Each-flat_map (EachBound P) (EachBound P) (λ μ. merges same μ R) (λ μ i. merges-bound μ R i k) L h

    pub left_join-bound : (keeps : Solution A → Bool) (L R : List (Solution A)) → Each (EachBound P) L → Each (EachBound P) R → Each (EachBound P) (left_join same keeps L R)
    left_join-bound keeps L R h k =
        Each-append (EachBound P) (filter keeps (join same L R)) (filter (alone same keeps R) L) (Each-filter (EachBound P) keeps (join same L R) (join-bound L R h k)) (Each-filter (EachBound P) (alone same keeps R) L h)

    pub minus-bound : (L R : List (Solution A)) → Each (EachBound P) L → Each (EachBound P) (minus same L R)
    minus-bound L R h = Each-filter (EachBound P) (λ μ. list_all (λ ν. not (is_compatible same μ ν) || not (share μ ν)) R) L h
