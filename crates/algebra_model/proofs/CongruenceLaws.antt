-- Equal multisets give equal multisets; LeftJoin solution by solution.
use Rattle.std.proofs.Common.{◌≡◌, ℕ, Bool, true, false, cond, not, ◌&&◌, ◌||◌, ◌==◌, List, [], ◌∷◌, ◌++◌, filter, Option, Decides, IsPermutation, flat_map, if◌then◌else◌, refl, sym, subst}
use Rattle.std.specs.List.{list_any, list_all}
use Rattle.std.proofs.lemmas.List.Sorted.{IsPermutation-refl, IsPermutation-map, IsPermutation-trans, IsPermutation-append, IsPermutation-append_comm}
use Rattle.std.proofs.lemmas.List.{append_assoc}
use Rattle.std.proofs.lemmas.List.Elements.{filter-append}
use Rattle.algebra_model.specs.Bag.{IsSameBag}
use Rattle.algebra_model.specs.Solution.{Solution, same_solution, is_compatible, merge}
use Rattle.algebra_model.specs.Operators.{join, merges, left_join, minus, share, distinct, extend, bind, project, restrict, table, table_row}
use Rattle.algebra_model.specs.Solve.{alone, left_row}
use Rattle.algebra_model.proofs.BagLaws.{IsPermutation-flat_map, IsPermutation-flat_map_each, IsPermutation-filter, list_all-IsPermutation}
use Rattle.algebra_model.proofs.RepeatLaws.{without_repeats-IsPermutation}
use Rattle.algebra_model.proofs.BgpLaws.{solution_decides}

module _ {T : Type 0} (same : T → T → Bool) (decides : (x y : T) → Decides (same x y) (x ≡ y)) where
  -- equal multisets give equal multisets

  pub filter-IsSameBag : (p : Solution T → Bool) (A A' : List (Solution T)) → IsSameBag A A' → IsSameBag (filter p A) (filter p A')
  filter-IsSameBag = IsPermutation-filter (same_solution same) (solution_decides same decides)

  pub merges-IsSameBag : (μ : Solution T) (B B' : List (Solution T)) → IsSameBag B B' → IsSameBag (merges same μ B) (merges same μ B')
  merges-IsSameBag μ B B' k = IsPermutation-map (merge μ) (filter (is_compatible same μ) B) (filter (is_compatible same μ) B') (filter-IsSameBag (is_compatible same μ) B B' k)

  pub join-IsSameBag : (A A' B B' : List (Solution T)) → IsSameBag A A' → IsSameBag B B' → IsSameBag (join same A B) (join same A' B')
  join-IsSameBag A A' B B' h k =
      IsPermutation-trans (join same A B) (join same A' B) (join same A' B')
      (IsPermutation-flat_map (same_solution same) (solution_decides same decides) (λ μ. merges same μ B) A A' h)
      (IsPermutation-flat_map_each (λ μ. merges same μ B) (λ μ. merges same μ B') (λ μ. merges-IsSameBag μ B B' k) A')

  pub union-IsSameBag : (A A' B B' : List (Solution T)) → IsSameBag A A' → IsSameBag B B' → IsSameBag (A ++ B) (A' ++ B')
  union-IsSameBag A A' B B' h k = IsPermutation-append A A' B B' h k

  -- a filter by a test on all of B, whose order does not matter
  filter-each : (t : Solution T → Solution T → Bool) (A A' B B' : List (Solution T)) → IsSameBag A A' → IsSameBag B B' → IsSameBag (filter (λ μ. list_all (t μ) B) A) (filter (λ μ. list_all (t μ) B') A')
  filter-each t A A' B B' h k =
      subst (λ (p : Solution T → Bool). IsSameBag (filter (λ μ. list_all (t μ) B) A) (filter p A')) (λ i μ. list_all-IsPermutation (t μ) B B' k i) (filter-IsSameBag (λ μ. list_all (t μ) B) A A' h)

  pub left_join-IsSameBag : (keeps : Solution T → Bool) (A A' B B' : List (Solution T)) → IsSameBag A A' → IsSameBag B B' → IsSameBag (left_join same keeps A B) (left_join same keeps A' B')
  left_join-IsSameBag keeps A A' B B' h k =
      IsPermutation-append (filter keeps (join same A B)) (filter keeps (join same A' B')) (filter (alone same keeps B) A) (filter (alone same keeps B') A')
      (filter-IsSameBag keeps (join same A B) (join same A' B') (join-IsSameBag A A' B B' h k))
      (filter-each (λ μ ν. not (is_compatible same μ ν && keeps (merge μ ν))) A A' B B' h k)

  pub minus-IsSameBag : (A A' B B' : List (Solution T)) → IsSameBag A A' → IsSameBag B B' → IsSameBag (minus same A B) (minus same A' B')
  minus-IsSameBag A A' B B' h k = filter-each (λ μ ν. not (is_compatible same μ ν) || not (share μ ν)) A A' B B' h k

  pub distinct-IsSameBag : (A A' : List (Solution T)) → IsSameBag A A' → IsSameBag (distinct same A) (distinct same A')
  distinct-IsSameBag = without_repeats-IsPermutation (same_solution same) (solution_decides same decides)

  -- row by row: the merges that pass, or the row itself if there are none
  module _ (keeps : Solution T → Bool) (B : List (Solution T)) where
    four : {X : Type 0} (a b c d : List X) → IsPermutation ((a ++ b) ++ (c ++ d)) ((a ++ c) ++ (b ++ d))
    four a b c d =
        let p = IsPermutation-append (b ++ c) (c ++ b) d d (IsPermutation-append_comm b c) (IsPermutation-refl d) in
        let q : IsPermutation (b ++ (c ++ d)) (c ++ (b ++ d)) = subst (λ l. IsPermutation l (c ++ (b ++ d))) (append_assoc b c d) (subst (λ l. IsPermutation ((b ++ c) ++ d) l) (append_assoc c b d) p) in
        let r = IsPermutation-append a a (b ++ (c ++ d)) (c ++ (b ++ d)) (IsPermutation-refl a) q in
        subst (λ l. IsPermutation l ((a ++ c) ++ (b ++ d))) (sym (append_assoc a b (c ++ d))) (subst (λ l. IsPermutation (a ++ (b ++ (c ++ d))) l) (sym (append_assoc a c (b ++ d))) r)

    alone_first : (b : Bool) (μ : Solution T) (R : List (Solution T)) → (if b then μ ∷ [] else []) ++ R ≡ cond b (μ ∷ R) R
    alone_first true μ R = refl
    alone_first false μ R = refl

    pub left_join-by_row : (A : List (Solution T)) → IsPermutation (flat_map (left_row same keeps B) A) (left_join same keeps A B)
    left_join-by_row [] = IsPermutation-refl []
    left_join-by_row (μ ∷ A) =
        let F = filter keeps (merges same μ B) in
        let S = if alone same keeps B μ then μ ∷ [] else [] in
        let J = filter keeps (join same A B) in
        let L = filter (alone same keeps B) A in
        let p = IsPermutation-append (F ++ S) (F ++ S) (flat_map (left_row same keeps B) A) (J ++ L) (IsPermutation-refl (F ++ S)) (left_join-by_row A) in
        let q = IsPermutation-trans ((F ++ S) ++ flat_map (left_row same keeps B) A) ((F ++ S) ++ (J ++ L)) ((F ++ J) ++ (S ++ L)) p (four F S J L) in
        subst (λ l. IsPermutation ((F ++ S) ++ flat_map (left_row same keeps B) A) l) (λ i. sym (filter-append keeps (merges same μ B) (join same A B)) i ++ alone_first (alone same keeps B μ) μ L i) q

module _ {T : Type 0} where
  pub extend-IsSameBag : (v : ℕ) (value : Solution T → Option T) (A A' : List (Solution T)) → IsSameBag A A' → IsSameBag (extend v value A) (extend v value A')
  extend-IsSameBag v value A A' h = IsPermutation-map (λ μ. bind v (value μ) μ) A A' h

  pub project-IsSameBag : (vs : List ℕ) (A A' : List (Solution T)) → IsSameBag A A' → IsSameBag (project vs A) (project vs A')
  project-IsSameBag vs A A' h = IsPermutation-map (restrict (λ v. list_any (λ u. u == v) vs)) A A' h

  pub table-IsSameBag : (w : ℕ) (vs : List ℕ) (R R' : List (List (Option T))) → IsSameBag R R' → IsSameBag (table w vs R) (table w vs R')
  table-IsSameBag w vs R R' h = IsPermutation-map (table_row w vs) R R' h
