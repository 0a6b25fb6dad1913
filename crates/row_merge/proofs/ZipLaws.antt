-- Two ascending lists merged into one, and that its beginning depends on the beginnings of the two.
use Rattle.std.proofs.Common.{◌≡◌, ℕ, zero, suc, ◌+◌, ◌≤◌, Bool, true, false, cond, ◌&&◌, ◌||◌, List, [], ◌∷◌, ◌++◌, take, Decides, IsPermutation, count_by, refl, sym, ap, ◌∙◌, subst, ⊎_elim, arith, Ordering, Less, Equal, Greater, is_eq, is_lt, is_gt}
use Rattle.std.specs.List.{list_any}
use Rattle.std.specs.Cmp.{IsTotalOrder}
use Rattle.std.specs.Ordering.{ordering_reverse}
use Rattle.std.proofs.lemmas.Bool.{cases_Bool, false≢true}
use Rattle.std.proofs.lemmas.Cmp.{tied_itself, upto}
use Rattle.std.proofs.lemmas.List.{take-take}
use Rattle.algebra_model.specs.Bag.{IsWithoutRepeats}
use Rattle.algebra_model.specs.Sorted.{IsUpTo, IsRising}
use Rattle.algebra_model.proofs.BagLaws.{count_by-cons, count_by-append, permutation_from_counts}

-- what comes next: the first, the second or the third, by a comparison; of equal elements the first alone if `once`
abbrev pub choose : {Y : Type 0} → Bool → Ordering → Y → Y → Y → Y
choose once Less a b c = a
choose once Equal a b c = cond once b a
choose once Greater a b c = c

module _ {X : Type 0} (R : X → X → Ordering) (once : Bool) where
  -- x and the rest of its list, merged with another list; `rest` merges the rest of x's list
  abbrev pub after : X → List X → (List X → List X) → List X → List X
  after x xs rest [] = x ∷ xs
  after x xs rest (y ∷ ys) = choose once (R x y) (x ∷ rest (y ∷ ys)) (x ∷ rest ys) (y ∷ after x xs rest ys)

  -- two ascending lists, merged; of equal elements one alone if `once`
  abbrev pub zipped : List X → List X → List X
  zipped [] ys = ys
  zipped (x ∷ xs) ys = after x xs (zipped xs) ys

  -- one element, and what follows it
  first-taken : (m a b : ℕ) (x : X) (xs : List X) (y : X) (ys : List X) (r : Ordering)
      → take m (zipped xs (y ∷ ys)) ≡ take m (zipped (take a xs) (y ∷ take b ys))
      → take m (zipped xs ys) ≡ take m (zipped (take a xs) (take b ys))
      → take m (zipped (x ∷ xs) ys) ≡ take m (zipped (x ∷ take a xs) (take b ys))
      → take (suc m) (choose once r (x ∷ zipped xs (y ∷ ys)) (x ∷ zipped xs ys) (y ∷ zipped (x ∷ xs) ys))
      ≡ take (suc m) (choose once r (x ∷ zipped (take a xs) (y ∷ take b ys)) (x ∷ zipped (take a xs) (take b ys)) (y ∷ zipped (x ∷ take a xs) (take b ys)))
  first-taken m a b x xs y ys Less left both right = ap (λ l. x ∷ l) left
  first-taken m a b x xs y ys Equal left both right = tied once
    where
      tied : (o : Bool) → take (suc m) (cond o (x ∷ zipped xs ys) (x ∷ zipped xs (y ∷ ys))) ≡ take (suc m) (cond o (x ∷ zipped (take a xs) (take b ys)) (x ∷ zipped (take a xs) (y ∷ take b ys)))
      tied true = ap (λ l. x ∷ l) both
      tied false = ap (λ l. x ∷ l) left
  first-taken m a b x xs y ys Greater left both right = ap (λ l. y ∷ l) right

  -- the first m elements depend on the first m of each list
  pub take-zipped : (m a b : ℕ) → m ≤ a → m ≤ b → (xs ys : List X) → take m (zipped xs ys) ≡ take m (zipped (take a xs) (take b ys))
  take-zipped zero a b p q xs ys = refl
  take-zipped (suc m) zero b p q xs ys = absurd (omega arith)
  take-zipped (suc m) (suc a) zero p q xs ys = absurd (omega arith)
  take-zipped (suc m) (suc a) (suc b) p q [] ys = sym (take-take (suc m) (suc b) ys q)
  take-zipped (suc m) (suc a) (suc b) p q (x ∷ xs) [] = sym (take-take (suc m) (suc a) (x ∷ xs) p)
  take-zipped (suc m) (suc a) (suc b) p q (x ∷ xs) (y ∷ ys) =
      first-taken m a b x xs y ys (R x y)
      (take-zipped m a (suc b) (omega arith) (omega arith) xs (y ∷ ys))
      (take-zipped m a b (omega arith) (omega arith) xs ys)
      (take-zipped m (suc a) b (omega arith) (omega arith) (x ∷ xs) ys)

  -- What is true of all merged lists, by the four ways in which an element comes first.
  module _
      (P : List X → List X → List X → Type 0)
      (nil : (ys : List X) → P [] ys ys)
      (end : (x : X) (xs : List X) → P (x ∷ xs) [] (x ∷ xs))
      (left : (x : X) (xs : List X) (y : X) (ys zs : List X) → is_gt (R x y) ≡ false → (once ≡ true → R x y ≡ Less) → P xs (y ∷ ys) zs → P (x ∷ xs) (y ∷ ys) (x ∷ zs))
      (both : (x : X) (xs : List X) (y : X) (ys zs : List X) → R x y ≡ Equal → once ≡ true → P xs ys zs → P (x ∷ xs) (y ∷ ys) (x ∷ zs))
      (right : (x : X) (xs : List X) (y : X) (ys zs : List X) → R x y ≡ Greater → P (x ∷ xs) ys zs → P (x ∷ xs) (y ∷ ys) (y ∷ zs)) where
    step : (x : X) (xs : List X) (y : X) (ys : List X) → P xs (y ∷ ys) (zipped xs (y ∷ ys)) → P xs ys (zipped xs ys) → P (x ∷ xs) ys (zipped (x ∷ xs) ys)
        → (r : Ordering) → R x y ≡ r → P (x ∷ xs) (y ∷ ys) (choose once r (x ∷ zipped xs (y ∷ ys)) (x ∷ zipped xs ys) (y ∷ zipped (x ∷ xs) ys))
    step x xs y ys a b c Less e = left x xs y ys (zipped xs (y ∷ ys)) (ap is_gt e) (λ _. e) a
    step x xs y ys a b c Equal e = tied once refl
      where
        tied : (o : Bool) → once ≡ o → P (x ∷ xs) (y ∷ ys) (cond o (x ∷ zipped xs ys) (x ∷ zipped xs (y ∷ ys)))
        tied true f = both x xs y ys (zipped xs ys) e f b
        tied false f = left x xs y ys (zipped xs (y ∷ ys)) (ap is_gt e) (λ t. absurd (false≢true (sym f ∙ t))) a
    step x xs y ys a b c Greater e = right x xs y ys (zipped (x ∷ xs) ys) e c

    inner : (x : X) (xs : List X) → ((ys : List X) → P xs ys (zipped xs ys)) → (ys : List X) → P (x ∷ xs) ys (zipped (x ∷ xs) ys)
    inner x xs ih [] = end x xs
    inner x xs ih (y ∷ ys) = step x xs y ys (ih (y ∷ ys)) (ih ys) (inner x xs ih ys) (R x y) refl

    pub of_zipped : (xs ys : List X) → P xs ys (zipped xs ys)
    of_zipped [] ys = nil ys
    of_zipped (x ∷ xs) ys = inner x xs (of_zipped xs) ys

  -- the elements, counted
  pub count_by-zipped : once ≡ false → (p : X → Bool) (xs ys : List X) → count_by p (zipped xs ys) ≡ count_by p xs + count_by p ys
  count_by-zipped all p = of_zipped (λ xs ys zs. count_by p zs ≡ count_by p xs + count_by p ys)
      (λ ys. omega arith)
      (λ x xs. omega arith)
      (λ x xs y ys zs le lt ih. let a = count_by-cons p x zs in let b = count_by-cons p x xs in omega (arith, a, b, ih))
      (λ x xs y ys zs e t ih. absurd (false≢true (sym all ∙ t)))
      (λ x xs y ys zs e ih. let a = count_by-cons p y zs in let b = count_by-cons p y ys in omega (arith, a, b, ih))

  module _ (o : IsTotalOrder R) (one : (x y : X) → R x y ≡ Equal → x ≡ y) where
    upto_less : (x y : X) (ys : List X) → is_gt (R x y) ≡ false → IsUpTo R y ys → IsUpTo R x ys
    upto_less x y [] e h = tt
    upto_less x y (z ∷ ys) e h = (upto o x y z e h.0, upto_less x y ys e h.1)

    -- R y x, where y comes before x
    turned : (x y : X) → R x y ≡ Greater → R y x ≡ Less
    turned x y e = o.antisymm y x ∙ ap ordering_reverse e

    -- the merged list is ascending, and what is up to all of both lists is up to all of it
    abbrev Ascends : List X → List X → List X → Type 0
    Ascends xs ys zs = ((u : X) → IsUpTo R u xs → IsUpTo R u ys → IsUpTo R u zs) × (IsRising R xs → IsRising R ys → IsRising R zs)

    ascends : (xs ys : List X) → Ascends xs ys (zipped xs ys)
    ascends = of_zipped Ascends
        (λ ys. (λ u a b. b, λ a b. b))
        (λ x xs. (λ u a b. a, λ a b. a))
        (λ x xs y ys zs le lt ih. (λ u a b. (a.0, ih.0 u a.1 b), λ a b. (ih.0 x a.0 (le, upto_less x y ys le b.0), ih.1 a.1 b)))
        (λ x xs y ys zs e t ih. (λ u a b. (a.0, ih.0 u a.1 b.1), λ a b. (ih.0 x a.0 (upto_less x y ys (ap is_gt e) b.0), ih.1 a.1 b.1)))
        (λ x xs y ys zs e ih. let le : is_gt (R y x) ≡ false = ap is_gt (turned x y e) in
        (λ u a b. (b.0, ih.0 u a b.1), λ a b. (ih.0 y (le, upto_less y x xs le a.0) b.0, ih.1 a b.1)))

    pub rises-zipped : (xs ys : List X) → IsRising R xs → IsRising R ys → IsRising R (zipped xs ys)
    rises-zipped xs ys = (ascends xs ys).1

    module _ (same : X → X → Bool) (decides : (x y : X) → Decides (same x y) (x ≡ y)) where
      -- an element before all of a list is not in it
      absent : (x y : X) → is_gt (R y x) ≡ true → (ys : List X) → IsUpTo R y ys → list_any (same x) ys ≡ false
      absent x y g [] h = refl
      absent x y g (z ∷ ys) h =
          ⊎_elim
          (λ (e : same x z ≡ true). absurd (false≢true (sym h.0 ∙ ap (λ v. is_gt (R y v)) (sym ((decides x z).0 e)) ∙ g)))
          (λ (e : same x z ≡ false). ap (λ b. b || list_any (same x) ys) e ∙ absent x y g ys h.1)
          (cases_Bool (same x z))

      pub first_of : (x y : X) (ys : List X) → R x y ≡ Less → IsUpTo R y ys → list_any (same x) (y ∷ ys) ≡ false
      first_of x y ys e h = absent x y (ap is_gt (o.antisymm y x ∙ ap ordering_reverse e)) (y ∷ ys) (ap is_gt (tied_itself o y), h)

      or_left : (a b c : Bool) → (a || (b || c)) ≡ ((a || b) || c)
      or_left true b c = refl
      or_left false b c = refl

      or_right : (a b c : Bool) → (a || (b || c)) ≡ (b || (a || c))
      or_right true true c = refl
      or_right true false c = refl
      or_right false b c = refl

      or_both : (a b c : Bool) → (a || (b || c)) ≡ ((a || b) || (a || c))
      or_both true b c = refl
      or_both false b c = refl

      -- the merged list has the elements of both lists, and none of them twice
      abbrev IsUnion : List X → List X → List X → Type 0
      IsUnion xs ys zs = ((p : X → Bool) → list_any p zs ≡ (list_any p xs || list_any p ys))
          × (once ≡ true → IsRising R xs → IsRising R ys → IsWithoutRepeats same xs → IsWithoutRepeats same ys → IsWithoutRepeats same zs)

      none : (a b : Bool) → a ≡ false → b ≡ false → (a || b) ≡ false
      none a b e f = ap (λ c. c || b) e ∙ f

      union : (xs ys : List X) → IsUnion xs ys (zipped xs ys)
      union = of_zipped IsUnion
          (λ ys. (λ p. refl, λ t a b c d. d))
          (λ x xs. (λ p. sym (or_false (list_any p (x ∷ xs))), λ t a b c d. c))
          (λ x xs y ys zs le lt ih. (
            λ p. ap (λ b. p x || b) (ih.0 p) ∙ or_left (p x) (list_any p xs) (list_any p (y ∷ ys)),
            λ t a b c d. (ih.0 (same x) ∙ none (list_any (same x) xs) (list_any (same x) (y ∷ ys)) c.0 (first_of x y ys (lt t) b.0), ih.1 t a.1 b c.1 d),
          ))
          (λ x xs y ys zs e t ih.
          let same_one : x ≡ y = one x y e in (
            λ p. ap (λ b. p x || b) (ih.0 p) ∙ or_both (p x) (list_any p xs) (list_any p ys) ∙ ap (λ v. (p x || list_any p xs) || (p v || list_any p ys)) same_one,
            λ t a b c d. (ih.0 (same x) ∙ none (list_any (same x) xs) (list_any (same x) ys) c.0 (ap (λ v. list_any (same v) ys) same_one ∙ d.0), ih.1 t a.1 b.1 c.1 d.1),
          ))
          (λ x xs y ys zs e ih. (
            λ p. ap (λ b. p y || b) (ih.0 p) ∙ or_right (p y) (list_any p (x ∷ xs)) (list_any p ys),
            λ t a b c d. (ih.0 (same y) ∙ none (list_any (same y) (x ∷ xs)) (list_any (same y) ys) (first_of y x xs (turned x y e) a.0) d.0, ih.1 t a b.1 c d.1),
          ))
        where
          or_false : (a : Bool) → (a || false) ≡ a
          or_false true = refl
          or_false false = refl

      pub any-zipped : (p : X → Bool) (xs ys : List X) → list_any p (zipped xs ys) ≡ (list_any p xs || list_any p ys)
      any-zipped p xs ys = (union xs ys).0 p

      pub once-zipped : once ≡ true → (xs ys : List X) → IsRising R xs → IsRising R ys → IsWithoutRepeats same xs → IsWithoutRepeats same ys → IsWithoutRepeats same (zipped xs ys)
      once-zipped t xs ys = (union xs ys).1 t

      -- all elements of both lists
      pub permutation-zipped : once ≡ false → (xs ys : List X) → IsPermutation (xs ++ ys) (zipped xs ys)
      permutation-zipped all xs ys = permutation_from_counts same decides (xs ++ ys) (zipped xs ys)
          (λ z. count_by-append (same z) xs ys ∙ sym (count_by-zipped all (same z) xs ys))
