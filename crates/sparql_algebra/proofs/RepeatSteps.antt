-- Inserting the elements of a list into an empty list gives the list without its repeats.
use Rattle.std.proofs.Common.{◌≡◌, Bool, true, false, not, cond, ◌||◌, List, [], ◌∷◌, ◌++◌, filter, Decides, refl, sym, ap, ◌∙◌, if◌then◌else◌, append_assoc, true≢false}
use Rattle.std.proofs.lemmas.List.{append-nil}
use Rattle.std.proofs.lemmas.List.Folds.{list_any-append}
use Rattle.std.proofs.lemmas.List.Elements.{filter_agree}
use Rattle.std.specs.List.{list_any}
use Rattle.indexmap.specs.IndexSet.{insert_key, insert_all}
use Rattle.algebra_model.specs.Bag.{without_repeats}

-- one filter after another
filter-filter : {X : Type 0} (p q : X → Bool) (xs : List X) → filter p (filter q xs) ≡ filter (λ x. cond (q x) (p x) false) xs
filter-filter p q [] = refl
filter-filter {X} p q (x ∷ xs) = by (q x) (filter-filter p q xs)
  where
    by : (b : Bool) → filter p (filter q xs) ≡ filter (λ y. cond (q y) (p y) false) xs
        → filter p (cond b (x ∷ filter q xs) (filter q xs)) ≡ cond (cond b (p x) false) (x ∷ filter (λ y. cond (q y) (p y) false) xs) (filter (λ y. cond (q y) (p y) false) xs)
    by true e = ap (λ l. cond (p x) (x ∷ l) l) e
    by false e = e

pub insert_all-append : {X : Type 0} (same : X → X → Bool) (ks xs ys : List X) → insert_all same ks (xs ++ ys) ≡ insert_all same (insert_all same ks xs) ys
insert_all-append same ks [] ys = refl
insert_all-append same ks (x ∷ xs) ys = insert_all-append same (insert_key same ks x) xs ys

module _ {X : Type 0} (same : X → X → Bool) (decides : (x y : X) → Decides (same x y) (x ≡ y)) where
  abbrev absent_in : List X → X → Bool
  absent_in ks u = not (list_any (same u) ks)

  abbrev differs_from : X → X → Bool
  differs_from x y = not (same x y)

  symmetric : (x y : X) → same x y ≡ same y x
  symmetric x y = by (same x y) (same y x) refl refl
    where
      by : (a b : Bool) → same x y ≡ a → same y x ≡ b → a ≡ b
      by true true e f = refl
      by false false e f = refl
      by true false e f = absurd (true≢false (sym ((decides y x).1 (sym ((decides x y).0 e))) ∙ f))
      by false true e f = absurd (true≢false (sym ((decides x y).1 (sym ((decides y x).0 f))) ∙ e))

  -- of elements that are in the list already, none is added again
  agree_there : (ks : List X) (t u : X) → list_any (same t) ks ≡ true → cond (differs_from t u) (absent_in ks u) false ≡ absent_in ks u
  agree_there ks t u h = by (same t u) refl
    where
      by : (b : Bool) → same t u ≡ b → cond (not b) (absent_in ks u) false ≡ absent_in ks u
      by true e = sym (ap not (sym (ap (λ v. list_any (same v) ks) ((decides t u).0 e)) ∙ h))
      by false e = refl

  agree_new : (ks : List X) (t u : X) → absent_in (ks ++ t ∷ []) u ≡ cond (differs_from t u) (absent_in ks u) false
  agree_new ks t u = ap not (list_any-append (same u) ks (t ∷ [])) ∙ ap (λ b. not (list_any (same u) ks || (b || false))) (symmetric u t) ∙ by (list_any (same u) ks) (same t u)
    where
      by : (a b : Bool) → not (a || (b || false)) ≡ cond (not b) (not a) false
      by true true = refl
      by true false = refl
      by false true = refl
      by false false = refl

  inserted : (ks ts : List X) → insert_all same ks ts ≡ ks ++ filter (absent_in ks) (without_repeats same ts)
  inserted ks [] = sym (append-nil ks)
  inserted ks (t ∷ ts) = by (list_any (same t) ks) refl (inserted ks ts) (inserted (ks ++ t ∷ []) ts)
    where
      by : (b : Bool) → list_any (same t) ks ≡ b
          → insert_all same ks ts ≡ ks ++ filter (absent_in ks) (without_repeats same ts)
          → insert_all same (ks ++ t ∷ []) ts ≡ (ks ++ t ∷ []) ++ filter (absent_in (ks ++ t ∷ [])) (without_repeats same ts)
          → insert_all same (if b then ks else ks ++ t ∷ []) ts ≡ ks ++ cond (not b) (t ∷ filter (absent_in ks) (filter (differs_from t) (without_repeats same ts))) (filter (absent_in ks) (filter (differs_from t) (without_repeats same ts)))
      by true e there new =
          there ∙ ap (λ l. ks ++ l) (sym (filter-filter (absent_in ks) (differs_from t) (without_repeats same ts)
          ∙ filter_agree (λ u. cond (differs_from t u) (absent_in ks u) false) (absent_in ks) (λ u. agree_there ks t u e) (without_repeats same ts)))
      by false e there new =
          new ∙ append_assoc ks (t ∷ []) (filter (absent_in (ks ++ t ∷ [])) (without_repeats same ts))
          ∙ ap (λ l. ks ++ t ∷ l) (filter_agree (absent_in (ks ++ t ∷ [])) (λ u. cond (differs_from t u) (absent_in ks u) false) (agree_new ks t) (without_repeats same ts)
          ∙ sym (filter-filter (absent_in ks) (differs_from t) (without_repeats same ts)))

  none_left_out : (xs : List X) → filter (absent_in []) xs ≡ xs
  none_left_out [] = refl
  none_left_out (x ∷ xs) = ap (λ l. x ∷ l) (none_left_out xs)

  pub inserted_once : (xs : List X) → insert_all same [] xs ≡ without_repeats same xs
  inserted_once xs = inserted [] xs ∙ none_left_out (without_repeats same xs)
