-- Left joins of rows with key numbers: the pairs that a condition keeps have the same key numbers.
use Rattle.std.proofs.Common.{◌≡◌, ℕ, zero, suc, ◌+◌, ◌<◌, ◌≤◌, Bool, true, false, cond, not, ◌&&◌, ◌||◌, is_some, List, [], ◌∷◌, ◌++◌, length, map, filter, take, get_or, option_map, nat_eq, Option, None, Some, refl, sym, ap, ◌∙◌, subst, arith}
use Rattle.std.specs.List.{list_all, All}
use Rattle.std.specs.Option.{option_eq}
use Rattle.std.proofs.Math.Nat.{mod-lt}
use Rattle.std.proofs.lemmas.Bool.{and_parts, false≢true}
use Rattle.std.proofs.lemmas.Bool.Decides.{Decides-eqb}
use Rattle.std.proofs.lemmas.List.{map-append, take_more}
use Rattle.std.proofs.lemmas.List.Elements.{All-head, All-tail, filter-append}
use Rattle.std.proofs.lemmas.List.Sorted.{IsPermutation-map}
use Rattle.rdf_core.specs.declared.term.Term.{Term}
use Rattle.rdf_core.proofs.TermLaws.{term_eq, term_decides}
use Rattle.algebra_model.specs.Bag.{IsSameBag}
use Rattle.algebra_model.specs.Operators.{join, left_join, merges}
use Rattle.algebra_model.specs.Renaming.{Each}
use Rattle.algebra_model.specs.Solution.{Solution, agree, bound_or, is_compatible, merge}
use Rattle.algebra_model.proofs.KeyLaws.{agree_at}
use Rattle.algebra_model.proofs.ReadingLaws.{bound_at}
use Rattle.algebra_model.proofs.TestLaws.{and_assoc}
use Rattle.dict_core.specs.Dict.{AreDistinct, term_at}
use Rattle.sparql_eval.specs.KeyedRows.{ArePaired, key_among, key_number, keys_of, pairing_key, with_keys}
use Rattle.sparql_eval.specs.Numbered.{IsKnownAt, IsKnownCell}
use Rattle.sparql_eval.specs.Fitting.{Requires, fits, have_one_key, meet}
use Rattle.sparql_eval.specs.declared.equalities.Equality.{Equality}
use Rattle.sparql_eval.proofs.ReadingLaws.{Known, apart, read_by}

-- ---- rows followed by further cells

compatible-append : (μ ν a b : Solution ℕ) → length μ ≡ length ν → is_compatible nat_eq (μ ++ a) (ν ++ b) ≡ (is_compatible nat_eq μ ν && is_compatible nat_eq a b)
compatible-append [] [] a b e = refl
compatible-append [] (y ∷ ν) a b e = absurd (omega arith)
compatible-append (x ∷ μ) [] a b e = absurd (omega arith)
compatible-append (x ∷ μ) (y ∷ ν) a b e = ap (λ c. agree nat_eq x y && c) (compatible-append μ ν a b (omega arith)) ∙ sym (and_assoc (agree nat_eq x y) (is_compatible nat_eq μ ν) (is_compatible nat_eq a b))

merge-append : (μ ν a b : Solution ℕ) → length μ ≡ length ν → merge (μ ++ a) (ν ++ b) ≡ merge μ ν ++ merge a b
merge-append [] [] a b e = refl
merge-append [] (y ∷ ν) a b e = absurd (omega arith)
merge-append (x ∷ μ) [] a b e = absurd (omega arith)
merge-append (x ∷ μ) (y ∷ ν) a b e = ap (λ r. bound_or x y ∷ r) (merge-append μ ν a b (omega arith))

merge-length : (μ ν : Solution ℕ) → length μ ≡ length ν → length (merge μ ν) ≡ length μ
merge-length [] [] e = refl
merge-length [] (y ∷ ν) e = absurd (omega arith)
merge-length (x ∷ μ) [] e = absurd (omega arith)
merge-length (x ∷ μ) (y ∷ ν) e = let h = merge-length μ ν (omega arith) in omega (arith, h)

take-first : (m z : Solution ℕ) (w : ℕ) → length m ≡ w → take w (m ++ z) ≡ m
take-first [] z zero e = nothing z
  where
    nothing : (z : Solution ℕ) → take 0 z ≡ []
    nothing [] = refl
    nothing (x ∷ z) = refl
take-first [] z (suc w) e = absurd (omega arith)
take-first (x ∷ m) z zero e = absurd (omega arith)
take-first (x ∷ m) z (suc w) e = ap (λ r. x ∷ r) (take-first m z w (omega arith))

pub get-merge : {T : Type 0} (μ ν : Solution T) (k : ℕ) → get_or (merge μ ν) k None ≡ bound_or (get_or μ k None) (get_or ν k None)
get-merge [] ν k = refl
get-merge (None ∷ μ) [] zero = refl
get-merge (Some x ∷ μ) [] zero = refl
get-merge {T} (x ∷ μ) [] (suc k) = by (get_or μ k None)
  where
    by : (y : Option T) → y ≡ bound_or y None
    by None = refl
    by (Some y) = refl
get-merge (x ∷ μ) (y ∷ ν) zero = refl
get-merge (x ∷ μ) (y ∷ ν) (suc k) = get-merge μ ν k

get-read : (terms : List Term) (μ : Solution ℕ) (k : ℕ) → get_or (read_by terms μ) k None ≡ option_map (term_at terms) (get_or μ k None)
get-read terms [] k = refl
get-read terms (x ∷ μ) zero = refl
get-read terms (x ∷ μ) (suc k) = get-read terms μ k

-- ---- key numbers

has_one_key : (s t : Term) → have_one_key s t ≡ true → ArePaired s t
has_one_key s t h =
    let b = and_parts (option_eq nat_eq (pairing_key s) (pairing_key t)) (is_some (pairing_key s) || term_eq s t) h in
    (same (pairing_key s) (pairing_key t) b.0, λ none. (term_decides s t).0 (sym (ap (λ (k : Option ℕ). is_some k || term_eq s t) none) ∙ b.1))
  where
    same : (a b : Option ℕ) → option_eq nat_eq a b ≡ true → a ≡ b
    same None None h = refl
    same None (Some y) h = absurd (false≢true h)
    same (Some x) None h = absurd (false≢true h)
    same (Some x) (Some y) h = ap Some ((Decides-eqb x y).0 h)

module _ (terms : List Term) (once : AreDistinct terms) where
  keys_meet : (n m : ℕ) → n < length terms → m < length terms → ArePaired (term_at terms n) (term_at terms m) → key_number terms n ≡ key_number terms m
  keys_meet n m low high h = by (pairing_key (term_at terms n)) refl
    where
      by : (k : Option ℕ) → pairing_key (term_at terms n) ≡ k → key_number terms n ≡ key_number terms m
      by (Some key) p = ap (key_among (length terms) n) p ∙ ap (key_among (length terms) m) (sym (sym h.0 ∙ p))
      by None p = ap (key_number terms) (apart terms once n m low high (h.1 p))

  module _ (μ ν : Solution ℕ) (knownL : Known terms μ) (knownR : Known terms ν) (c : is_compatible nat_eq μ ν ≡ true) where
    pub cells_agree : (x y : ℕ) → meet (get_or (read_by terms (merge μ ν)) x None) (get_or (read_by terms (merge μ ν)) y None) ≡ true
        → agree nat_eq (option_map (key_number terms) (get_or μ x None)) (option_map (key_number terms) (get_or ν y None)) ≡ true
    cells_agree x y h = by (get_or μ x None) (get_or ν y None) (get_or μ y None) refl refl refl
      where
        merged : (v : ℕ) → get_or (read_by terms (merge μ ν)) v None ≡ option_map (term_at terms) (bound_or (get_or μ v None) (get_or ν v None))
        merged v = get-read terms (merge μ ν) v ∙ ap (option_map (term_at terms)) (get-merge μ ν v)

        left : (n : ℕ) → get_or μ x None ≡ Some n → get_or (read_by terms (merge μ ν)) x None ≡ Some (term_at terms n)
        left n e = merged x ∙ ap (λ o. option_map (term_at terms) (bound_or o (get_or ν x None))) e

        right : (m : ℕ) (d : Option ℕ) → get_or ν y None ≡ Some m → get_or μ y None ≡ d → get_or (read_by terms (merge μ ν)) y None ≡ Some (term_at terms m)
        right m None e f = merged y ∙ (λ i. option_map (term_at terms) (bound_or (f i) (e i)))
        right m (Some d) e f =
            let same : nat_eq d m ≡ true = sym (λ i. agree nat_eq (f i) (e i)) ∙ agree_at nat_eq μ ν c y in
            let is : d ≡ m = (Decides-eqb d m).0 same in
            merged y ∙ (λ i. option_map (term_at terms) (bound_or (f i) (e i))) ∙ ap (λ k. Some (term_at terms k)) is

        by : (a b d : Option ℕ) → get_or μ x None ≡ a → get_or ν y None ≡ b → get_or μ y None ≡ d → agree nat_eq (option_map (key_number terms) a) (option_map (key_number terms) b) ≡ true
        by None b d e f g = refl
        by (Some n) None d e f g = refl
        by (Some n) (Some m) d e f g =
            let one : have_one_key (term_at terms n) (term_at terms m) ≡ true = sym (λ i. meet (left n e i) (right m d f g i)) ∙ h in
            (Decides-eqb (key_number terms n) (key_number terms m)).1
            (keys_meet n m (bound_at (λ k. k < length terms) μ x n knownL e) (bound_at (λ k. k < length terms) ν y m knownR f) (has_one_key (term_at terms n) (term_at terms m) one))

    keys_agree : (pairs : List Equality) → fits pairs (read_by terms (merge μ ν)) ≡ true
        → is_compatible nat_eq (keys_of terms (map (λ p. p.left.variable) pairs) μ) (keys_of terms (map (λ p. p.right.variable) pairs) ν) ≡ true
    keys_agree [] h = refl
    keys_agree (p ∷ pairs) h =
        let ρ = read_by terms (merge μ ν) in
        let b = and_parts (meet (get_or ρ p.left.variable None) (get_or ρ p.right.variable None)) (fits pairs ρ) h in
        λ i. cells_agree p.left.variable p.right.variable b.0 i && keys_agree pairs b.1 i

  -- ---- pairs of rows

  module _ (test : Solution Term → Bool) (pairs : List Equality) (required : Requires test pairs) (w : ℕ) where
    abbrev xs : List ℕ
    xs = map (λ p. p.left.variable) pairs

    abbrev ys : List ℕ
    ys = map (λ p. p.right.variable) pairs

    abbrev keeps : Solution ℕ → Bool
    keeps ρ = test (read_by terms ρ)

    abbrev keeps_first : Solution ℕ → Bool
    keeps_first ρ = keeps (take w ρ)

    abbrev W : Solution ℕ → Solution ℕ
    W μ = with_keys terms xs μ

    abbrev V : Solution ℕ → Solution ℕ
    V ν = with_keys terms ys ν

    module _ (μ : Solution ℕ) (knownL : Known terms μ) (wideL : length μ ≡ w) where
      first_merged : (ν : Solution ℕ) → length ν ≡ w → take w (merge (W μ) (V ν)) ≡ merge μ ν
      first_merged ν wide =
          let e : length μ ≡ length ν = omega arith in
          ap (take w) (merge-append μ ν (keys_of terms xs μ) (keys_of terms ys ν) e) ∙ take-first (merge μ ν) (merge (keys_of terms xs μ) (keys_of terms ys ν)) w (merge-length μ ν e ∙ wideL)

      pair_kept : (ν : Solution ℕ) → Known terms ν → length ν ≡ w → (is_compatible nat_eq (W μ) (V ν) && keeps_first (merge (W μ) (V ν))) ≡ (is_compatible nat_eq μ ν && keeps (merge μ ν))
      pair_kept ν knownR wide =
          (λ i. compatible-append μ ν (keys_of terms xs μ) (keys_of terms ys ν) (omega arith) i && keeps (first_merged ν wide i))
          ∙ by (is_compatible nat_eq μ ν) (is_compatible nat_eq (keys_of terms xs μ) (keys_of terms ys ν)) (keeps (merge μ ν)) (λ c k. keys_agree μ ν knownL knownR c pairs (required (read_by terms (merge μ ν)) k))
        where
          by : (c a k : Bool) → (c ≡ true → k ≡ true → a ≡ true) → ((c && a) && k) ≡ (c && k)
          by true true k h = refl
          by true false true h = absurd (false≢true (h refl refl))
          by true false false h = refl
          by false a k h = refl

      row_kept : (R : List (Solution ℕ)) → Each (Known terms) R → Each (λ ν. length ν ≡ w) R → map (take w) (filter keeps_first (merges nat_eq (W μ) (map V R))) ≡ filter keeps (merges nat_eq μ R)
      row_kept [] known wide = refl
      row_kept (ν ∷ R) known wide =
          by (is_compatible nat_eq (W μ) (V ν)) (is_compatible nat_eq μ ν) (keeps (merge μ ν)) (sym (ap (λ k. is_compatible nat_eq (W μ) (V ν) && k) (ap keeps (first_merged ν wide.0))) ∙ pair_kept ν known.0 wide.0)
          (ap keeps (first_merged ν wide.0)) refl (row_kept R known.1 wide.1)
        where
          F : List (Solution ℕ)
          F = filter (is_compatible nat_eq (W μ)) (map V R)

          G : List (Solution ℕ)
          G = filter (is_compatible nat_eq μ) R

          m : Solution ℕ
          m = merge (W μ) (V ν)

          by : (a c k : Bool) → (a && keeps (merge μ ν)) ≡ (c && keeps (merge μ ν)) → keeps_first m ≡ keeps (merge μ ν) → keeps (merge μ ν) ≡ k
              → map (take w) (filter keeps_first (map (merge (W μ)) F)) ≡ filter keeps (map (merge μ) G)
              → map (take w) (filter keeps_first (map (merge (W μ)) (cond a (V ν ∷ F) F))) ≡ filter keeps (map (merge μ) (cond c (ν ∷ G) G))
          by true true true q p k i =
              ap (λ b. map (take w) (cond b (m ∷ filter keeps_first (map (merge (W μ)) F)) (filter keeps_first (map (merge (W μ)) F)))) (p ∙ k)
              ∙ (λ j. first_merged ν wide.0 j ∷ i j)
              ∙ ap (λ b. cond b (merge μ ν ∷ filter keeps (map (merge μ) G)) (filter keeps (map (merge μ) G))) (sym k)
          by true true false q p k i =
              ap (λ b. map (take w) (cond b (m ∷ filter keeps_first (map (merge (W μ)) F)) (filter keeps_first (map (merge (W μ)) F)))) (p ∙ k) ∙ i
              ∙ ap (λ b. cond b (merge μ ν ∷ filter keeps (map (merge μ) G)) (filter keeps (map (merge μ) G))) (sym k)
          by true false true q p k i = absurd (false≢true (sym q ∙ k))
          by true false false q p k i = ap (λ b. map (take w) (cond b (m ∷ filter keeps_first (map (merge (W μ)) F)) (filter keeps_first (map (merge (W μ)) F)))) (p ∙ k) ∙ i
          by false true true q p k i = absurd (false≢true (q ∙ k))
          by false true false q p k i = i ∙ ap (λ b. cond b (merge μ ν ∷ filter keeps (map (merge μ) G)) (filter keeps (map (merge μ) G))) (sym k)
          by false false k q p r i = i

      row_alone : (R : List (Solution ℕ)) → Each (Known terms) R → Each (λ ν. length ν ≡ w) R
          → list_all (λ ν. not (is_compatible nat_eq (W μ) ν && keeps_first (merge (W μ) ν))) (map V R) ≡ list_all (λ ν. not (is_compatible nat_eq μ ν && keeps (merge μ ν))) R
      row_alone [] known wide = refl
      row_alone (ν ∷ R) known wide = λ i. not (pair_kept ν known.0 wide.0 i) && row_alone R known.1 wide.1 i

    -- ---- the whole left join

    module _ (R : List (Solution ℕ)) (knownR : Each (Known terms) R) (wideR : Each (λ ν. length ν ≡ w) R) where
      pub all_kept : (L : List (Solution ℕ)) → Each (Known terms) L → Each (λ μ. length μ ≡ w) L → map (take w) (filter keeps_first (join nat_eq (map W L) (map V R))) ≡ filter keeps (join nat_eq L R)
      all_kept [] known wide = refl
      all_kept (μ ∷ L) known wide =
          let M = merges nat_eq (W μ) (map V R) in
          let J = join nat_eq (map W L) (map V R) in
          ap (map (take w)) (filter-append keeps_first M J) ∙ map-append (take w) (filter keeps_first M) (filter keeps_first J)
          ∙ (λ i. row_kept μ known.0 wide.0 R knownR wideR i ++ all_kept L known.1 wide.1 i)
          ∙ sym (filter-append keeps (merges nat_eq μ R) (join nat_eq L R))

      all_alone : (L : List (Solution ℕ)) → Each (Known terms) L → Each (λ μ. length μ ≡ w) L
          → map (take w) (filter (λ μ. list_all (λ ν. not (is_compatible nat_eq μ ν && keeps_first (merge μ ν))) (map V R)) (map W L))
          ≡ filter (λ μ. list_all (λ ν. not (is_compatible nat_eq μ ν && keeps (merge μ ν))) R) L
      all_alone [] known wide = refl
      all_alone (μ ∷ L) known wide =
          by (list_all (λ ν. not (is_compatible nat_eq (W μ) ν && keeps_first (merge (W μ) ν))) (map V R)) (list_all (λ ν. not (is_compatible nat_eq μ ν && keeps (merge μ ν))) R)
          (row_alone μ known.0 wide.0 R knownR wideR) (all_alone L known.1 wide.1)
        where
          F : List (Solution ℕ)
          F = filter (λ μ. list_all (λ ν. not (is_compatible nat_eq μ ν && keeps_first (merge μ ν))) (map V R)) (map W L)

          G : List (Solution ℕ)
          G = filter (λ μ. list_all (λ ν. not (is_compatible nat_eq μ ν && keeps (merge μ ν))) R) L

          by : (a b : Bool) → a ≡ b → map (take w) F ≡ G → map (take w) (cond a (W μ ∷ F) F) ≡ cond b (μ ∷ G) G
          by true true q i = λ j. take-first μ (keys_of terms xs μ) w wide.0 j ∷ i j
          by true false q i = absurd (false≢true (sym q))
          by false true q i = absurd (false≢true q)
          by false false q i = i

      pub left_join_keyed : (L : List (Solution ℕ)) → Each (Known terms) L → Each (λ μ. length μ ≡ w) L → (made : List (Solution ℕ))
          → IsSameBag made (left_join nat_eq keeps_first (map W L) (map V R)) → IsSameBag (map (take w) made) (left_join nat_eq keeps L R)
      left_join_keyed L known wide made bag =
          let J = left_join nat_eq keeps_first (map W L) (map V R) in
          subst (IsSameBag (map (take w) made))
          (map-append (take w) (filter keeps_first (join nat_eq (map W L) (map V R))) (filter (λ μ. list_all (λ ν. not (is_compatible nat_eq μ ν && keeps_first (merge μ ν))) (map V R)) (map W L))
          ∙ (λ i. all_kept L known wide i ++ all_alone L known wide i))
          (IsPermutation-map (take w) made J bag)

-- the first elements, if the list may be shorter
pub first_taken : {X : Type 0} (w m : ℕ) (xs : List X) → m ≤ w → m ≤ length xs → (m < w → length xs ≤ m) → take m xs ≡ take w xs
first_taken zero zero xs p q r = refl
first_taken zero (suc m) xs p q r = absurd (omega arith)
first_taken (suc w) zero [] p q r = refl
first_taken (suc w) zero (x ∷ xs) p q r = let k : length (x ∷ xs) ≤ 0 = r (omega arith) in absurd (omega arith)
first_taken (suc w) (suc m) [] p q r = absurd (omega arith)
first_taken (suc w) (suc m) (x ∷ xs) p q r = ap (λ l. x ∷ l) (first_taken w m xs (omega arith) (omega arith) (λ l. let k : length (x ∷ xs) ≤ suc m = r (omega arith) in omega arith))

-- the same property, for each element
pub each_of_all : {X : Type 0} (P : X → Type 0) (xs : List X) → All P xs → Each P xs
each_of_all P [] h = tt
each_of_all P (x ∷ xs) h = (All-head P x xs h, each_of_all P xs (All-tail P x xs h))

-- ---- the numbers in rows with key numbers

module _ (terms : List Term) where
  key_below : (n : ℕ) → n < length terms → key_number terms n < length terms
  key_below n low = by (pairing_key (term_at terms n))
    where
      by : (k : Option ℕ) → key_among (length terms) n k < length terms
      by None = low
      by (Some key) = mod-lt key (omega arith)

  keys_known : (vs : List ℕ) (μ : Solution ℕ) → Known terms μ → Known terms (keys_of terms vs μ)
  keys_known [] μ h = tt
  keys_known (v ∷ vs) μ h = by (get_or μ v None) refl (keys_known vs μ h)
    where
      by : (c : Option ℕ) → get_or μ v None ≡ c → Known terms (keys_of terms vs μ) → Known terms (option_map (key_number terms) c ∷ keys_of terms vs μ)
      by None e k = k
      by (Some n) e k = (key_below n (bound_at (λ k. k < length terms) μ v n h e), k)

  known-append : (μ ν : Solution ℕ) → Known terms μ → Known terms ν → Known terms (μ ++ ν)
  known-append [] ν h k = k
  known-append (None ∷ μ) ν h k = known-append μ ν h k
  known-append (Some n ∷ μ) ν h k = (h.0, known-append μ ν h.1 k)

  pub keyed_known : (vs : List ℕ) (L : List (Solution ℕ)) → Each (Known terms) L → Each (Known terms) (map (with_keys terms vs) L)
  keyed_known vs [] h = tt
  keyed_known vs (μ ∷ L) h = (known-append μ (keys_of terms vs μ) h.0 (keys_known vs μ h.0), keyed_known vs L h.1)

  -- known cells among the first cells
  pub first_known : (w : ℕ) (μ : Solution ℕ) → IsKnownAt terms μ → IsKnownAt terms (take w μ)
  first_known w μ h k n e = h k n (by w μ k e)
    where
      by : (w : ℕ) (μ : Solution ℕ) (k : ℕ) → get_or (take w μ) k None ≡ Some n → get_or μ k None ≡ Some n
      by zero [] k e = cc
      by zero (x ∷ μ) k e = cc
      by (suc w) [] k e = cc
      by (suc w) (x ∷ μ) zero e = e
      by (suc w) (x ∷ μ) (suc k) e = by w μ k e

  -- what a variable of a row is bound to
  pub known_cell : (μ : Solution ℕ) → IsKnownAt terms μ → (v : ℕ) (c : Option ℕ) → c ≡ get_or μ v None → IsKnownCell terms c
  known_cell μ h v None e = tt
  known_cell μ h v (Some n) e = h v n (sym e)

  -- the key numbers of one more variable
  pub keys_more : (μ : Solution ℕ) (vs : List ℕ) (i : ℕ) → i < length vs → keys_of terms (take (i + 1) vs) μ ≡ keys_of terms (take i vs) μ ++ option_map (key_number terms) (get_or μ (get_or vs i 0) None) ∷ []
  keys_more μ vs i low = ap (λ l. keys_of terms l μ) (take_more vs i 0 low) ∙ map-append (λ v. option_map (key_number terms) (get_or μ v None)) (take i vs) (get_or vs i 0 ∷ [])
