-- One more row of two ranks: read, and written in its place.
use Rattle.std.proofs.Common.{◌≡◌, ℕ, zero, suc, ◌+◌, ◌*◌, ◌/◌, ◌%◌, ◌^◌, ◌<◌, List, [], ◌∷◌, ◌++◌, length, get_or, set, take, map, IsPermutation, refl, sym, ap, ◌∙◌, subst, arith, add-one}
use Rattle.std.proofs.lemmas.List.{take_more, map-append, length-map}
use Rattle.std.proofs.lemmas.List.Sorted.{IsPermutation-map, length_permutation}
use Rattle.row_core.specs.RowList.{rows_in}
use Rattle.row_core.proofs.RowSteps.{length-rows_in}
use Rattle.result_json.specs.Pairs.{pair_in}

-- where a row of two ranks begins
abbrev twice : ℕ → ℕ
twice zero = zero
twice (suc n) = suc (suc (twice n))

twice-is : (n : ℕ) → 2 * n ≡ twice n
twice-is zero = refl
twice-is (suc n) = let e = twice-is n in omega arith

read : (n d e : ℕ) (cells : List ℕ) → suc (twice n) < length cells
    → rows_in 2 2 (suc n) cells ≡ rows_in 2 2 n cells ++ (get_or cells (twice n) d ∷ get_or cells (suc (twice n)) e ∷ []) ∷ []
read n d e [] l = absurd (omega arith)
read n d e (x ∷ []) l = absurd (omega arith)
read zero d e (x ∷ y ∷ cells) l = refl
read (suc n) d e (x ∷ y ∷ cells) l = ap (λ r. (x ∷ y ∷ []) ∷ r) (read n d e cells (omega arith))

put : (n a b : ℕ) (cells : List ℕ) → suc (twice n) < length cells
    → rows_in 2 2 (suc n) (set (set cells (twice n) a) (suc (twice n)) b) ≡ rows_in 2 2 n cells ++ (a ∷ b ∷ []) ∷ []
put n a b [] l = absurd (omega arith)
put n a b (x ∷ []) l = absurd (omega arith)
put zero a b (x ∷ y ∷ cells) l = refl
put (suc n) a b (x ∷ y ∷ cells) l = ap (λ r. (x ∷ y ∷ []) ∷ r) (put n a b cells (omega arith))

pub read_more : (n d e key : ℕ) (cells keys keys' : List ℕ) → 2 * n + 1 < length cells → pair_in key ≡ get_or cells (2 * n) d ∷ get_or cells (2 * n + 1) e ∷ [] → keys' ≡ keys ++ key ∷ []
    → map pair_in keys ≡ rows_in 2 2 n cells → map pair_in keys' ≡ rows_in 2 2 (n + 1) cells
read_more n d e key cells keys keys' l pair more h =
    let i : 2 * n ≡ twice n = twice-is n in
    let j : 2 * n + 1 ≡ suc (twice n) = omega arith in
    ap (map pair_in) more ∙ map-append pair_in keys (key ∷ [])
    ∙ (λ t. h t ++ pair t ∷ []) ∙ (λ t. rows_in 2 2 n cells ++ (get_or cells (i t) d ∷ get_or cells (j t) e ∷ []) ∷ [])
    ∙ sym (read n d e cells (omega arith)) ∙ ap (λ k. rows_in 2 2 k cells) (sym (add-one n))

pub put_more : (n : ℕ) (cells keys : List ℕ) → 2 * n + 1 < length cells → n < length keys → rows_in 2 2 n cells ≡ map pair_in (take n keys)
    → rows_in 2 2 (n + 1) (set (set cells (2 * n) (get_or keys n 0 / 2 ^ 32)) (2 * n + 1) (get_or keys n 0 % 2 ^ 32)) ≡ map pair_in (take (n + 1) keys)
put_more n cells keys l m h =
    let key = get_or keys n 0 in
    let i : 2 * n ≡ twice n = twice-is n in
    let j : 2 * n + 1 ≡ suc (twice n) = omega arith in
    (λ t. rows_in 2 2 (add-one n t) (set (set cells (i t) (key / 2 ^ 32)) (j t) (key % 2 ^ 32)))
    ∙ put n (key / 2 ^ 32) (key % 2 ^ 32) cells (omega arith) ∙ ap (λ (rs : List (List ℕ)). rs ++ pair_in key ∷ []) h
    ∙ sym (map-append pair_in (take n keys) (key ∷ [])) ∙ ap (map pair_in) (sym (take_more keys n 0 m))

-- sorted numbers of rows: they are as many, and their rows are a permutation
module _ (n : ℕ) (cells keys sorted : List ℕ) (keyed : map pair_in keys ≡ rows_in 2 2 n cells) (p : IsPermutation keys sorted) where
  pub sorted_count : length sorted ≡ n
  sorted_count = length_permutation keys sorted p ∙ sym (length-map keys pair_in) ∙ ap length keyed ∙ length-rows_in 2 2 n cells

  pub pairs_in_order : (ordered : List ℕ) → rows_in 2 2 (length sorted) ordered ≡ map pair_in sorted → IsPermutation (rows_in 2 2 n cells) (rows_in 2 2 n ordered)
  pairs_in_order ordered e =
      let back : map pair_in sorted ≡ rows_in 2 2 n ordered = sym e ∙ ap (λ k. rows_in 2 2 k ordered) sorted_count in
      subst (λ (rs : List (List ℕ)). IsPermutation rs (rows_in 2 2 n ordered)) keyed
      (subst (λ (rs : List (List ℕ)). IsPermutation (map pair_in keys) rs) back (IsPermutation-map pair_in keys sorted p))
