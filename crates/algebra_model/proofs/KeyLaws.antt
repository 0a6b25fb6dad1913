-- Pairs of solutions with different keys are incompatible, so a join may leave them out.
use Rattle.std.proofs.Common.{◌≡◌, ℕ, zero, suc, Bool, true, false, cond, not, ◌&&◌, ◌||◌, List, [], ◌∷◌, ◌++◌, get_or, map, filter, Option, None, Some, Decides, IsPermutation, is_some, if◌then◌else◌, refl, sym, ap, ◌∙◌, subst, ⊎_elim}
use Rattle.std.proofs.lemmas.Bool.{cases_Bool, false≢true, and_parts}
use Rattle.std.specs.Option.{option_eq}
use Rattle.std.specs.List.{list_all}
use Rattle.std.specs.Cmp.Lexicographic.{pointwise}
use Rattle.std.proofs.lemmas.List.Sorted.{IsPermutation-refl, IsPermutation-cons, IsPermutation-middle, IsPermutation-trans, IsPermutation-append, IsPermutation-map}
use Rattle.algebra_model.specs.Bag.{IsSameBag}
use Rattle.algebra_model.specs.Solution.{Solution, same_solution, agree, is_compatible, merge}
use Rattle.algebra_model.specs.Operators.{merges, share}
use Rattle.algebra_model.specs.RowOrder.{cells}
use Rattle.algebra_model.specs.Solve.{alone, left_row}
use Rattle.algebra_model.specs.Keys.{is_keyed, same_key, may_meet, candidates}
use Rattle.algebra_model.proofs.BagLaws.{IsPermutation-filter, list_all-IsPermutation, same_bag}
use Rattle.algebra_model.proofs.BgpLaws.{solution_decides}

-- two filters that pass no common element, concatenated
pub filter-either : {X : Type 0} (p q : X → Bool) → ((x : X) → p x ≡ true → q x ≡ false) → (xs : List X) → IsPermutation (filter p xs ++ filter q xs) (filter (λ x. p x || q x) xs)
filter-either p q once [] = IsPermutation-refl []
filter-either {X} p q once (x ∷ xs) = by (p x) (q x) (once x) (filter-either p q once xs)
  where
    by : (a b : Bool) → (a ≡ true → b ≡ false) → IsPermutation (filter p xs ++ filter q xs) (filter (λ x. p x || q x) xs)
        → IsPermutation (cond a (x ∷ filter p xs) (filter p xs) ++ cond b (x ∷ filter q xs) (filter q xs)) (cond (a || b) (x ∷ filter (λ x. p x || q x) xs) (filter (λ x. p x || q x) xs))
    by true true o i = absurd (false≢true (sym (o refl)))
    by true false o i = IsPermutation-cons x (filter p xs ++ filter q xs) (filter (λ x. p x || q x) xs) i
    by false true o i =
        IsPermutation-trans (filter p xs ++ x ∷ filter q xs) (x ∷ (filter p xs ++ filter q xs)) (x ∷ filter (λ x. p x || q x) xs) (IsPermutation-middle (filter p xs) x (filter q xs)) (IsPermutation-cons x (filter p xs ++ filter q xs) (filter (λ x. p x || q x) xs) i)
    by false false o i = i

module _ {T : Type 0} (same : T → T → Bool) where
  -- compatible solutions agree at each variable
  pub agree_at : (μ ν : Solution T) → is_compatible same μ ν ≡ true → (v : ℕ) → agree same (get_or μ v None) (get_or ν v None) ≡ true
  agree_at [] ν h v = refl
  agree_at (x ∷ μ) [] h zero = nothing x
    where
      nothing : (x : Option T) → agree same x None ≡ true
      nothing None = refl
      nothing (Some x) = refl
  agree_at (x ∷ μ) [] h (suc v) = nothing (get_or μ v None)
    where
      nothing : (x : Option T) → agree same x None ≡ true
      nothing None = refl
      nothing (Some x) = refl
  agree_at (x ∷ μ) (y ∷ ν) h zero = (and_parts _ _ h).0
  agree_at (x ∷ μ) (y ∷ ν) h (suc v) = agree_at μ ν (and_parts _ _ h).1 v

  module _ (vs : List ℕ) where
    key_of : (μ ν : Solution T) → is_compatible same μ ν ≡ true → (us : List ℕ) → list_all (λ v. is_some (get_or μ v None)) us ≡ true → list_all (λ v. is_some (get_or ν v None)) us ≡ true → list_all (λ v. option_eq same (get_or μ v None) (get_or ν v None)) us ≡ true
    key_of μ ν h [] a b = refl
    key_of μ ν h (u ∷ us) a b =
        let p = and_parts (is_some (get_or μ u None)) (list_all (λ v. is_some (get_or μ v None)) us) a in
        let q = and_parts (is_some (get_or ν u None)) (list_all (λ v. is_some (get_or ν v None)) us) b in
        λ i. (both (get_or μ u None) (get_or ν u None) p.0 q.0 (agree_at μ ν h u) i) && key_of μ ν h us p.1 q.1 i
      where
        both : (x y : Option T) → is_some x ≡ true → is_some y ≡ true → agree same x y ≡ true → option_eq same x y ≡ true
        both None y a b e = absurd (false≢true a)
        both (Some x) None a b e = absurd (false≢true b)
        both (Some x) (Some y) a b e = e

    -- a pair that need not be compared is incompatible
    pub may_meet-covers : (μ ν : Solution T) → may_meet same vs μ ν ≡ false → is_compatible same μ ν ≡ false
    may_meet-covers μ ν e =
        ⊎_elim
        (λ (h : is_compatible same μ ν ≡ true). absurd (false≢true (sym e ∙ meets (is_keyed vs μ) (is_keyed vs ν) (same_key same vs μ ν) (key_of μ ν h vs))))
        (λ (h : is_compatible same μ ν ≡ false). h)
        (cases_Bool (is_compatible same μ ν))
      where
        meets : (a b c : Bool) → (a ≡ true → b ≡ true → c ≡ true) → (not a || (not b || c)) ≡ true
        meets true true c h = h refl refl
        meets true false c h = refl
        meets false b c h = refl

    -- the candidates of a solution with a key are the solutions that must be compared
    pub candidates-are : (μ : Solution T) → is_keyed vs μ ≡ true → (B : List (Solution T)) → IsSameBag (candidates same vs μ B) (filter (may_meet same vs μ) B)
    candidates-are μ k B =
        subst (λ (p : Solution T → Bool). IsSameBag (candidates same vs μ B) (filter p B)) (λ i ν. test (is_keyed vs ν) (same_key same vs μ ν) i)
        (filter-either (λ ν. is_keyed vs ν && same_key same vs μ ν) (λ ν. not (is_keyed vs ν)) (λ ν h. ap not (and_parts (is_keyed vs ν) (same_key same vs μ ν) h).0) B)
      where
        test : (b c : Bool) → ((b && c) || not b) ≡ (not (is_keyed vs μ) || (not b || c))
        test b c = shape b c ∙ ap (λ a. not a || (not b || c)) (sym k)
          where
            shape : (b c : Bool) → ((b && c) || not b) ≡ (not b || c)
            shape true true = refl
            shape true false = refl
            shape false c = refl

    -- the key is the row of the key variables
    pub same_key-cells : (μ ν : Solution T) → same_key same vs μ ν ≡ pointwise (option_eq same) (cells vs μ) (cells vs ν)
    same_key-cells μ ν = each vs
      where
        each : (us : List ℕ) → list_all (λ v. option_eq same (get_or μ v None) (get_or ν v None)) us ≡ pointwise (option_eq same) (cells us μ) (cells us ν)
        each [] = refl
        each (u ∷ us) = ap (λ b. option_eq same (get_or μ u None) (get_or ν u None) && b) (each us)

  -- A test covers μ if each solution that does not pass it is incompatible with μ. The solutions
  -- that do not pass may then be left out.
  module _ (μ : Solution T) (q : Solution T → Bool) (covers : (ν : Solution T) → q ν ≡ false → is_compatible same μ ν ≡ false) where
    pub merges-of_filter : (B : List (Solution T)) → merges same μ (filter q B) ≡ merges same μ B
    merges-of_filter [] = refl
    merges-of_filter (ν ∷ B) =
        ⊎_elim
        (λ (e : q ν ≡ true). ap (λ b. merges same μ (cond b (ν ∷ filter q B) (filter q B))) e ∙ more (is_compatible same μ ν) (merges-of_filter B))
        (λ (e : q ν ≡ false). ap (λ b. merges same μ (cond b (ν ∷ filter q B) (filter q B))) e ∙ merges-of_filter B ∙ ap (λ b. map (merge μ) (cond b (ν ∷ filter (is_compatible same μ) B) (filter (is_compatible same μ) B))) (sym (covers ν e)))
        (cases_Bool (q ν))
      where
        more : (b : Bool) → merges same μ (filter q B) ≡ merges same μ B → map (merge μ) (cond b (ν ∷ filter (is_compatible same μ) (filter q B)) (filter (is_compatible same μ) (filter q B))) ≡ map (merge μ) (cond b (ν ∷ filter (is_compatible same μ) B) (filter (is_compatible same μ) B))
        more true i = ap (λ r. merge μ ν ∷ r) i
        more false i = i

    -- a test of all that incompatible solutions pass
    pub list_all-of_filter : (t : Solution T → Bool) → ((ν : Solution T) → is_compatible same μ ν ≡ false → t ν ≡ true) → (B : List (Solution T)) → list_all t (filter q B) ≡ list_all t B
    list_all-of_filter t passes [] = refl
    list_all-of_filter t passes (ν ∷ B) =
        ⊎_elim
        (λ (e : q ν ≡ true). ap (λ b. list_all t (cond b (ν ∷ filter q B) (filter q B))) e ∙ ap (λ b. t ν && b) (list_all-of_filter t passes B))
        (λ (e : q ν ≡ false). ap (λ b. list_all t (cond b (ν ∷ filter q B) (filter q B))) e ∙ list_all-of_filter t passes B ∙ ap (λ b. b && list_all t B) (sym (passes ν (covers ν e))))
        (cases_Bool (q ν))

    module _ (C B : List (Solution T)) (tried : IsSameBag C (filter q B)) where
      -- what no solution of C removes from μ, no solution of B removes
      pub alone-tried : (keeps : Solution T → Bool) → alone same keeps C μ ≡ alone same keeps B μ
      alone-tried keeps =
          let t = λ (ν : Solution T). not (is_compatible same μ ν && keeps (merge μ ν)) in
          list_all-IsPermutation t C (filter q B) tried ∙ list_all-of_filter t (λ ν e. ap (λ b. not (b && keeps (merge μ ν))) e) B

      pub apart-tried : list_all (λ ν. not (is_compatible same μ ν) || not (share μ ν)) C ≡ list_all (λ ν. not (is_compatible same μ ν) || not (share μ ν)) B
      apart-tried =
          let t = λ (ν : Solution T). not (is_compatible same μ ν) || not (share μ ν) in
          list_all-IsPermutation t C (filter q B) tried ∙ list_all-of_filter t (λ ν e. ap (λ b. not b || not (share μ ν)) e) B

      module _ (decides : (x y : T) → Decides (same x y) (x ≡ y)) where
        pub merges-tried : IsSameBag (merges same μ C) (merges same μ B)
        merges-tried =
            subst (λ l. IsSameBag (merges same μ C) l) (merges-of_filter B)
            (IsPermutation-map (merge μ) (filter (is_compatible same μ) C) (filter (is_compatible same μ) (filter q B)) (IsPermutation-filter (same_solution same) (solution_decides same decides) (is_compatible same μ) C (filter q B) tried))

        pub left_row-tried : (keeps : Solution T → Bool) → IsSameBag (left_row same keeps C μ) (left_row same keeps B μ)
        left_row-tried keeps =
            let rest = λ (b : Bool). if b then μ ∷ [] else [] in
            IsPermutation-append (filter keeps (merges same μ C)) (filter keeps (merges same μ B)) (rest (alone same keeps C μ)) (rest (alone same keeps B μ))
            (IsPermutation-filter (same_solution same) (solution_decides same decides) keeps (merges same μ C) (merges same μ B) merges-tried)
            (same_bag (rest (alone same keeps C μ)) (rest (alone same keeps B μ)) (ap rest (alone-tried keeps)))
