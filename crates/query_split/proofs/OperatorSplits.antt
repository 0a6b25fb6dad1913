-- Operators over two lists of solutions that come from different parts.
use Rattle.std.proofs.Common.{◌≡◌, ℕ, Bool, true, false, cond, ◌&&◌, not, ◌||◌, List, [], ◌∷◌, ◌++◌, map, filter, flat_map, Decides, IsPermutation, count_by, if◌then◌else◌, refl, sym, ap, ◌∙◌, arith, append-nil}
use Rattle.std.specs.List.{list_any, list_all}
use Rattle.std.proofs.lemmas.List.{map-append}
use Rattle.std.proofs.lemmas.List.Concat.{flat_map-append}
use Rattle.std.proofs.lemmas.List.Elements.{filter-append}
use Rattle.algebra_model.specs.Bag.{IsSameBag}
use Rattle.algebra_model.specs.Solution.{Solution, same_solution, is_compatible, merge}
use Rattle.algebra_model.specs.Operators.{join, merges, left_join, minus, share}
use Rattle.algebra_model.specs.Solve.{alone}
use Rattle.algebra_model.specs.Renaming.{Each}
use Rattle.algebra_model.proofs.BagLaws.{count_by-append, permutation_from_counts}
use Rattle.algebra_model.proofs.BgpLaws.{solution_decides}

-- what is true of each element, for other elements
pub Each-map : {X : Type 0} {P Q : X → Type 0} → ((x : X) → P x → Q x) → (xs : List X) → Each P xs → Each Q xs
Each-map f [] h = tt
Each-map f (x ∷ xs) h = (f x h.0, Each-map f xs h.1)

pub Each-all : {X : Type 0} {P : X → Type 0} → ((x : X) → P x) → (xs : List X) → Each P xs
Each-all f [] = tt
Each-all f (x ∷ xs) = (f x, Each-all f xs)

-- a test that is the same for each element
filter-same : {X : Type 0} (p q : X → Bool) (xs : List X) → Each (λ x. p x ≡ q x) xs → filter p xs ≡ filter q xs
filter-same p q [] h = refl
filter-same p q (x ∷ xs) h = λ i. cond (h.0 i) (x ∷ filter-same p q xs h.1 i) (filter-same p q xs h.1 i)

pub flat_map-same : {X Y : Type 0} (f g : X → List Y) (xs : List X) → Each (λ x. f x ≡ g x) xs → flat_map f xs ≡ flat_map g xs
flat_map-same f g [] h = refl
flat_map-same f g (x ∷ xs) h = λ i. h.0 i ++ flat_map-same f g xs h.1 i

module _ {T : Type 0} (same : T → T → Bool) where
  -- μ is compatible with none
  abbrev pub IsAlien : List (Solution T) → Solution T → Type 0
  IsAlien B μ = Each (λ ν. is_compatible same μ ν ≡ false) B

  -- no solution of A is compatible with one of B
  abbrev pub AreAlien : List (Solution T) → List (Solution T) → Type 0
  AreAlien A B = Each (IsAlien B) A

module _ {T : Type 0} (same : T → T → Bool) (decides : (x y : T) → Decides (same x y) (x ≡ y)) where
  -- four lists, in another order
  pub four : (a b c d : List (Solution T)) → IsPermutation ((a ++ b) ++ (c ++ d)) ((a ++ c) ++ (b ++ d))
  four a b c d = permutation_from_counts (same_solution same) (solution_decides same decides) ((a ++ b) ++ (c ++ d)) ((a ++ c) ++ (b ++ d))
      (λ z.
      let p = same_solution same z in
      let u = count_by-append p (a ++ b) (c ++ d) in
      let v = count_by-append p (a ++ c) (b ++ d) in
      let ab = count_by-append p a b in
      let cd = count_by-append p c d in
      let ac = count_by-append p a c in
      let bd = count_by-append p b d in
      omega (arith, u, v, ab, cd, ac, bd))

  -- two lists for each element: those of one kind first
  pub flat_map-two : {X : Type 0} (f g : X → List (Solution T)) (xs : List X) → IsPermutation (flat_map (λ x. f x ++ g x) xs) (flat_map f xs ++ flat_map g xs)
  flat_map-two {X = X} f g xs = permutation_from_counts (same_solution same) (solution_decides same decides) (flat_map (λ x. f x ++ g x) xs) (flat_map f xs ++ flat_map g xs)
      (λ z. by (same_solution same z) xs)
    where
      by : (p : Solution T → Bool) (xs : List X) → count_by p (flat_map (λ x. f x ++ g x) xs) ≡ count_by p (flat_map f xs ++ flat_map g xs)
      by p [] = refl
      by p (x ∷ xs) =
          let ih = by p xs in
          let a = count_by-append p (f x ++ g x) (flat_map (λ x. f x ++ g x) xs) in
          let b = count_by-append p (f x) (g x) in
          let c = count_by-append p (flat_map f xs) (flat_map g xs) in
          let d = count_by-append p (f x ++ flat_map f xs) (g x ++ flat_map g xs) in
          let e = count_by-append p (f x) (flat_map f xs) in
          let h = count_by-append p (g x) (flat_map g xs) in
          omega (arith, ih, a, b, c, d, e, h)

  none_compatible : (μ : Solution T) (B : List (Solution T)) → IsAlien same B μ → filter (is_compatible same μ) B ≡ []
  none_compatible μ [] h = refl
  none_compatible μ (ν ∷ B) h = ap (λ b. cond b (ν ∷ filter (is_compatible same μ) B) (filter (is_compatible same μ) B)) h.0 ∙ none_compatible μ B h.1

  merges-append : (μ : Solution T) (B C : List (Solution T)) → merges same μ (B ++ C) ≡ merges same μ B ++ merges same μ C
  merges-append μ B C = ap (map (merge μ)) (filter-append (is_compatible same μ) B C) ∙ map-append (merge μ) (filter (is_compatible same μ) B) (filter (is_compatible same μ) C)

  merges-left : (B C : List (Solution T)) (μ : Solution T) → IsAlien same C μ → merges same μ (B ++ C) ≡ merges same μ B
  merges-left B C μ h = merges-append μ B C ∙ ap (λ l. merges same μ B ++ map (merge μ) l) (none_compatible μ C h) ∙ append-nil (merges same μ B)

  merges-right : (B C : List (Solution T)) (μ : Solution T) → IsAlien same B μ → merges same μ (B ++ C) ≡ merges same μ C
  merges-right B C μ h = merges-append μ B C ∙ ap (λ l. map (merge μ) l ++ merges same μ C) (none_compatible μ B h)

  -- a test of all that incompatible solutions pass
  module _ (test : Solution T → Solution T → Bool) (passes : (μ ν : Solution T) → is_compatible same μ ν ≡ false → test μ ν ≡ true) where
    all_pass : (μ : Solution T) (B : List (Solution T)) → IsAlien same B μ → list_all (test μ) B ≡ true
    all_pass μ [] h = refl
    all_pass μ (ν ∷ B) h = ap (λ b. b && list_all (test μ) B) (passes μ ν h.0) ∙ all_pass μ B h.1

    all-append : (μ : Solution T) (B C : List (Solution T)) → list_all (test μ) (B ++ C) ≡ (list_all (test μ) B && list_all (test μ) C)
    all-append μ [] C = refl
    all-append μ (ν ∷ B) C = ap (λ b. test μ ν && b) (all-append μ B C) ∙ regroup (test μ ν) (list_all (test μ) B) (list_all (test μ) C)
      where
        regroup : (a b c : Bool) → (a && (b && c)) ≡ ((a && b) && c)
        regroup true b c = refl
        regroup false b c = refl

    and_true : (b : Bool) → (b && true) ≡ b
    and_true true = refl
    and_true false = refl

    all-left : (B C : List (Solution T)) (μ : Solution T) → IsAlien same C μ → list_all (test μ) (B ++ C) ≡ list_all (test μ) B
    all-left B C μ h = all-append μ B C ∙ ap (λ b. list_all (test μ) B && b) (all_pass μ C h) ∙ and_true (list_all (test μ) B)

    all-right : (B C : List (Solution T)) (μ : Solution T) → IsAlien same B μ → list_all (test μ) (B ++ C) ≡ list_all (test μ) C
    all-right B C μ h = all-append μ B C ∙ ap (λ b. b && list_all (test μ) C) (all_pass μ B h)

    -- the solutions that pass for all of both lists
    passing : (A A' B B' : List (Solution T)) → AreAlien same A B' → AreAlien same A' B
        → filter (λ μ. list_all (test μ) (B ++ B')) (A ++ A') ≡ filter (λ μ. list_all (test μ) B) A ++ filter (λ μ. list_all (test μ) B') A'
    passing A A' B B' h k =
        filter-append (λ μ. list_all (test μ) (B ++ B')) A A'
        ∙ (λ i. filter-same (λ μ. list_all (test μ) (B ++ B')) (λ μ. list_all (test μ) B) A (Each-map (all-left B B') A h) i
        ++ filter-same (λ μ. list_all (test μ) (B ++ B')) (λ μ. list_all (test μ) B') A' (Each-map (all-right B B') A' k) i)

  module _ (A A' B B' : List (Solution T)) (h : AreAlien same A B') (k : AreAlien same A' B) where
    pub join-split : join same (A ++ A') (B ++ B') ≡ join same A B ++ join same A' B'
    join-split =
        flat_map-append (λ μ. merges same μ (B ++ B')) A A'
        ∙ (λ i. flat_map-same (λ μ. merges same μ (B ++ B')) (λ μ. merges same μ B) A (Each-map (merges-left B B') A h) i
        ++ flat_map-same (λ μ. merges same μ (B ++ B')) (λ μ. merges same μ B') A' (Each-map (merges-right B B') A' k) i)

    pub minus-split : minus same (A ++ A') (B ++ B') ≡ minus same A B ++ minus same A' B'
    minus-split = passing (λ μ ν. not (is_compatible same μ ν) || not (share μ ν)) (λ μ ν e. ap (λ b. not b || not (share μ ν)) e) A A' B B' h k

    pub left_join-split : (keeps : Solution T → Bool) → IsSameBag (left_join same keeps (A ++ A') (B ++ B')) (left_join same keeps A B ++ left_join same keeps A' B')
    left_join-split keeps =
        Rattle.std.proofs.Common.subst (λ l. IsPermutation l (left_join same keeps A B ++ left_join same keeps A' B'))
        (sym (λ i.
        (ap (filter keeps) join-split ∙ filter-append keeps (join same A B) (join same A' B')) i
        ++ passing (λ μ ν. not (is_compatible same μ ν && keeps (merge μ ν))) (λ μ ν e. ap (λ b. not (b && keeps (merge μ ν))) e) A A' B B' h k i))
        (four (filter keeps (join same A B)) (filter keeps (join same A' B')) (filter (alone same keeps B) A) (filter (alone same keeps B') A'))

  -- a right side that is the same for both
  module _ (A A' B : List (Solution T)) where
    pub join-of_left : join same (A ++ A') B ≡ join same A B ++ join same A' B
    join-of_left = flat_map-append (λ μ. merges same μ B) A A'

    pub join-of_right : IsSameBag (join same B (A ++ A')) (join same B A ++ join same B A')
    join-of_right =
        Rattle.std.proofs.Common.subst (λ l. IsPermutation l (join same B A ++ join same B A'))
        (sym (flat_map-same (λ μ. merges same μ (A ++ A')) (λ μ. merges same μ A ++ merges same μ A') B (Each-all (λ μ. merges-append μ A A') B)))
        (flat_map-two (λ μ. merges same μ A) (λ μ. merges same μ A') B)

    pub minus-of_left : minus same (A ++ A') B ≡ minus same A B ++ minus same A' B
    minus-of_left = filter-append (λ μ. list_all (λ ν. not (is_compatible same μ ν) || not (share μ ν)) B) A A'

    pub left_join-of_left : (keeps : Solution T → Bool) → IsSameBag (left_join same keeps (A ++ A') B) (left_join same keeps A B ++ left_join same keeps A' B)
    left_join-of_left keeps =
        Rattle.std.proofs.Common.subst (λ l. IsPermutation l (left_join same keeps A B ++ left_join same keeps A' B))
        (sym (λ i.
        (ap (filter keeps) join-of_left ∙ filter-append keeps (join same A B) (join same A' B)) i
        ++ filter-append (alone same keeps B) A A' i))
        (four (filter keeps (join same A B)) (filter keeps (join same A' B)) (filter (alone same keeps B) A) (filter (alone same keeps B) A'))

  -- a join with nothing
  pub join-nothing : (A : List (Solution T)) → join same A [] ≡ []
  join-nothing [] = refl
  join-nothing (μ ∷ A) = join-nothing A
