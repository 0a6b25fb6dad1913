-- Places of rows, and the rows at them.
use Rattle.std.proofs.Common.{◌≡◌, ℕ, zero, suc, ◌+◌, ◌<◌, Bool, true, false, not, cond, ◌&&◌, ◌||◌, List, [], ◌∷◌, ◌++◌, length, map, filter, get_or, nat_eq, Option, Some, None, refl, sym, ap, subst, ◌∙◌, arith, is_some, All, append_assoc}
use Rattle.std.specs.List.{range_with_len}
use Rattle.std.specs.Option.{option_eq}
use Rattle.std.specs.Cmp.Lexicographic.{pointwise}
use Rattle.std.proofs.Math.Bool.{and-true}
use Rattle.std.proofs.lemmas.Bool.{false≢true, and_parts}
use Rattle.std.proofs.lemmas.List.{map-append, length-append, length-map}
use Rattle.std.proofs.lemmas.List.Elements.{All-append, filter-append}
use Rattle.algebra_model.specs.Bag.{IsSameBag}
use Rattle.algebra_model.specs.Solution.{Solution}
use Rattle.algebra_model.specs.RowOrder.{cells}
use Rattle.algebra_model.specs.Keys.{is_keyed, same_key, may_meet, candidates}
use Rattle.algebra_model.proofs.BagLaws.{same_bag}
use Rattle.algebra_model.proofs.KeyLaws.{candidates-are, same_key-cells}
use Rattle.row_join.specs.Places.{group_of, has_key, places_below, places_where, rows_at, place_if, IsTableOf, PlaceTable}

-- with one more number
pub range_more : (n a : ℕ) → range_with_len a (suc n) ≡ range_with_len a n ++ (a + n) ∷ []
range_more zero a = let e : a ≡ a + 0 = omega arith in ap (λ (k : ℕ). k ∷ []) e
range_more (suc n) a =
    let e : (a + 1) + n ≡ a + suc n = omega arith in
    ap (λ (l : List ℕ). a ∷ l) (range_more n (a + 1) ∙ ap (λ (k : ℕ). range_with_len (a + 1) n ++ k ∷ []) e)

pub range_next : (n : ℕ) → range_with_len 0 (n + 1) ≡ range_with_len 0 n ++ n ∷ []
range_next n =
    let s : n + 1 ≡ suc n = omega arith in
    let z : 0 + n ≡ n = omega arith in
    ap (range_with_len 0) s ∙ range_more n 0 ∙ ap (λ (k : ℕ). range_with_len 0 n ++ k ∷ []) z

-- in two parts
pub range_split : (m n a : ℕ) → range_with_len a (m + n) ≡ range_with_len a m ++ range_with_len (a + m) n
range_split zero n a =
    let e : 0 + n ≡ n = omega arith in
    let f : a ≡ a + 0 = omega arith in
    λ j. range_with_len (f j) (e j)
range_split (suc m) n a =
    let e : suc m + n ≡ suc (m + n) = omega arith in
    let f : (a + 1) + m ≡ a + suc m = omega arith in
    ap (range_with_len a) e ∙ ap (λ (l : List ℕ). a ∷ l) (range_split m n (a + 1) ∙ ap (λ (k : ℕ). range_with_len (a + 1) m ++ range_with_len k n) f)

filter_one : (p : ℕ → Bool) (n : ℕ) → filter p (n ∷ []) ≡ place_if (p n) n
filter_one p n = by (p n)
  where
    by : (b : Bool) → cond b (n ∷ []) [] ≡ place_if b n
    by true = refl
    by false = refl

-- with one more row
pub places_more : (p : Solution ℕ → Bool) (rows : List (Solution ℕ)) (n : ℕ) → places_below (n + 1) p rows ≡ places_below n p rows ++ place_if (p (get_or rows n [])) n
places_more p rows n =
    let q = λ (i : ℕ). p (get_or rows i []) in
    ap (filter q) (range_next n) ∙ filter-append q (range_with_len 0 n) (n ∷ []) ∙ ap (λ (l : List ℕ). filter q (range_with_len 0 n) ++ l) (filter_one q n)

-- all places are in range
range_below : (n a : ℕ) → All (λ i. i < a + n) (range_with_len a n)
range_below zero a k d low = absurd (omega arith)
range_below (suc n) a zero d low = omega arith
range_below (suc n) a (suc k) d low =
    let e : (a + 1) + n ≡ a + suc n = omega arith in
    subst (λ (m : ℕ). get_or (range_with_len (a + 1) n) k d < m) e (range_below n (a + 1) k d (omega arith))

All-filter : {X : Type 0} (P : X → Type 0) (q : X → Bool) (xs : List X) → All P xs → All P (filter q xs)
All-filter P q [] h = λ k d low. absurd (omega arith)
All-filter {X} P q (x ∷ xs) h = by (q x) (All-filter P q xs (λ k d low. h (suc k) d (omega arith)))
  where
    first_more : All P (filter q xs) → (k : ℕ) (d : X) → k < length (x ∷ filter q xs) → P (get_or (x ∷ filter q xs) k d)
    first_more rest zero d low = h 0 d (omega arith)
    first_more rest (suc k) d low = rest k d (omega arith)

    by : (b : Bool) → All P (filter q xs) → All P (cond b (x ∷ filter q xs) (filter q xs))
    by true rest = first_more rest
    by false rest = rest

pub places_inside : (p : Solution ℕ → Bool) (rows : List (Solution ℕ)) → All (λ i. i < length rows) (places_where p rows)
places_inside p rows = All-filter (λ i. i < length rows) (λ i. p (get_or rows i [])) (range_with_len 0 (length rows)) (range_inside (length rows))
  where
    range_inside : (n : ℕ) → All (λ i. i < n) (range_with_len 0 n)
    range_inside n k d low = let h = range_below n 0 k d low in omega arith

pub all_inside : (rows : List (Solution ℕ)) → All (λ i. i < length rows) (range_with_len 0 (length rows))
all_inside rows k d low = let h = range_below (length rows) 0 k d low in omega arith

-- the rows at all places are the rows
at_range : {X : Type 0} (before xs : List X) (d : X) → map (λ i. get_or (before ++ xs) i d) (range_with_len (length before) (length xs)) ≡ xs
at_range before [] d = refl
at_range {X} before (x ∷ xs) d =
    let s : length (before ++ x ∷ []) ≡ length before + 1 = length-append before (x ∷ []) in
    (λ j. here before j ∷ map (λ i. get_or (sym (append_assoc before (x ∷ []) xs) j) i d) (range_with_len (sym s j) (length xs)))
    ∙ ap (λ (l : List X). x ∷ l) (at_range (before ++ x ∷ []) xs d)
  where
    here : (b : List X) → get_or (b ++ x ∷ xs) (length b) d ≡ x
    here [] = refl
    here (y ∷ b) = here b

pub rows_at_all : (rows : List (Solution ℕ)) → rows_at rows (range_with_len 0 (length rows)) ≡ rows
rows_at_all rows = at_range [] rows []

-- the rows at the places of a test are the rows that pass it
map-filter : {X Y : Type 0} (f : X → Y) (p : Y → Bool) (xs : List X) → map f (filter (λ x. p (f x)) xs) ≡ filter p (map f xs)
map-filter f p [] = refl
map-filter {X} {Y} f p (x ∷ xs) = by (p (f x)) (map-filter f p xs)
  where
    by : (b : Bool) → map f (filter (λ x. p (f x)) xs) ≡ filter p (map f xs) → map f (cond b (x ∷ filter (λ x. p (f x)) xs) (filter (λ x. p (f x)) xs)) ≡ cond b (f x ∷ filter p (map f xs)) (filter p (map f xs))
    by true e = ap (λ (l : List Y). f x ∷ l) e
    by false e = e

pub rows_at_places : (p : Solution ℕ → Bool) (rows : List (Solution ℕ)) → rows_at rows (places_where p rows) ≡ filter p rows
rows_at_places p rows =
    map-filter (λ (i : ℕ). get_or rows i []) p (range_with_len 0 (length rows)) ∙ ap (filter p) (rows_at_all rows)

-- a row with these numbers binds all variables of the key
has_key-keyed : (key numbers : List ℕ) (μ : Solution ℕ) → has_key key numbers μ ≡ true → is_keyed key μ ≡ true
has_key-keyed [] numbers μ h = refl
has_key-keyed (v ∷ key) [] μ h = absurd (false≢true h)
has_key-keyed (v ∷ key) (n ∷ numbers) μ h =
    let parts = and_parts (option_eq nat_eq (Some n) (get_or μ v None)) (has_key key numbers μ) h in
    λ j. bound (get_or μ v None) parts.0 j && has_key-keyed key numbers μ parts.1 j
  where
    bound : (x : Option ℕ) → option_eq nat_eq (Some n) x ≡ true → is_some x ≡ true
    bound None e = absurd (false≢true e)
    bound (Some x) e = refl

pub has_key-unkeyed : (key : List ℕ) (μ : Solution ℕ) → is_keyed key μ ≡ false → (numbers : List ℕ) → has_key key numbers μ ≡ false
has_key-unkeyed key μ e numbers = by (has_key key numbers μ) refl
  where
    by : (b : Bool) → has_key key numbers μ ≡ b → b ≡ false
    by true h = absurd (false≢true (sym e ∙ has_key-keyed key numbers μ h))
    by false h = refl

-- a row with these numbers has the key of other numbers exactly if both are the same
numbers_compared : (found numbers : List ℕ) → pointwise (option_eq nat_eq) (map Some found) (map Some numbers) ≡ pointwise nat_eq found numbers
numbers_compared [] [] = refl
numbers_compared [] (n ∷ numbers) = refl
numbers_compared (m ∷ found) [] = refl
numbers_compared (m ∷ found) (n ∷ numbers) = ap (λ b. nat_eq m n && b) (numbers_compared found numbers)

pub has_key-numbers : (key numbers : List ℕ) (μ : Solution ℕ) → map Some numbers ≡ cells key μ → (found : List ℕ) → has_key key found μ ≡ pointwise nat_eq found numbers
has_key-numbers key numbers μ e found =
    ap (λ (l : List (Option ℕ)). pointwise (option_eq nat_eq) (map Some found) l) (sym e) ∙ numbers_compared found numbers

-- the candidates for a left row with a key
module _ (key : List ℕ) (μ : Solution ℕ) (numbers : List ℕ) (is : map Some numbers ≡ cells key μ) (keyed : is_keyed key μ ≡ true) where
  same_test : (ν : Solution ℕ) → has_key key numbers ν ≡ (is_keyed key ν && same_key nat_eq key μ ν)
  same_test ν = by (is_keyed key ν) refl
    where
      has : has_key key numbers ν ≡ same_key nat_eq key μ ν
      has = ap (λ (l : List (Option ℕ)). pointwise (option_eq nat_eq) l (cells key ν)) is ∙ sym (same_key-cells nat_eq key μ ν)

      by : (b : Bool) → is_keyed key ν ≡ b → has_key key numbers ν ≡ (b && same_key nat_eq key μ ν)
      by true e = has
      by false e = has_key-unkeyed key ν e numbers

  pub keyed_tried : (rows : List (Solution ℕ)) (table : PlaceTable) → IsTableOf key rows table
      → IsSameBag (rows_at rows (group_of table.keyed numbers ++ table.apart)) (filter (may_meet nat_eq key μ) rows)
  keyed_tried rows table is_table =
      subst (λ (l : List (Solution ℕ)). IsSameBag l (filter (may_meet nat_eq key μ) rows)) (sym the_rows) (candidates-are nat_eq key μ keyed rows)
    where
      the_rows : rows_at rows (group_of table.keyed numbers ++ table.apart) ≡ candidates nat_eq key μ rows
      the_rows =
          map-append (λ (i : ℕ). get_or rows i []) (group_of table.keyed numbers) table.apart
          ∙ (λ j. rows_at rows (is_table.0 numbers j) ++ rows_at rows (is_table.1 j))
          ∙ (λ j. rows_at_places (has_key key numbers) rows j ++ rows_at_places (λ ν. not (is_keyed key ν)) rows j)
          ∙ ap (λ (p : Solution ℕ → Bool). filter p rows ++ filter (λ ν. not (is_keyed key ν)) rows) (λ j ν. same_test ν j)

pub keyed_inside : (key numbers : List ℕ) (rows : List (Solution ℕ)) (table : PlaceTable) → IsTableOf key rows table
    → All (λ i. i < length rows) (group_of table.keyed numbers ++ table.apart)
keyed_inside key numbers rows table is =
    subst (λ (l : List ℕ). All (λ i. i < length rows) l) (λ j. sym (is.0 numbers) j ++ sym is.1 j)
    (All-append (λ i. i < length rows) (places_where (has_key key numbers) rows) (places_where (λ μ. not (is_keyed key μ)) rows)
    (places_inside (has_key key numbers) rows) (places_inside (λ μ. not (is_keyed key μ)) rows))

-- a key of one variable
pub one_cell : (key : List ℕ) (μ : Solution ℕ) → length key ≡ 1 → cells key μ ≡ get_or μ (get_or key 0 0) None ∷ []
one_cell [] μ e = absurd (omega arith)
one_cell (v ∷ []) μ e = refl
one_cell (v ∷ u ∷ key) μ e = absurd (omega arith)

pub one_keyed : (key : List ℕ) (μ : Solution ℕ) → length key ≡ 1 → is_keyed key μ ≡ is_some (get_or μ (get_or key 0 0) None)
one_keyed [] μ e = absurd (omega arith)
one_keyed (v ∷ []) μ e = and-true (is_some (get_or μ v None))
one_keyed (v ∷ u ∷ key) μ e = absurd (omega arith)

-- for a left row without a key all rows are candidates
pub unkeyed_tried : (key : List ℕ) (μ : Solution ℕ) → is_keyed key μ ≡ false → (rows : List (Solution ℕ))
    → IsSameBag (rows_at rows (range_with_len 0 (length rows))) (filter (may_meet nat_eq key μ) rows)
unkeyed_tried key μ e rows =
    same_bag (rows_at rows (range_with_len 0 (length rows))) (filter (may_meet nat_eq key μ) rows) (rows_at_all rows ∙ sym (all_pass rows))
  where
    passes : (ν : Solution ℕ) → may_meet nat_eq key μ ν ≡ true
    passes ν = ap (λ b. not b || (not (is_keyed key ν) || same_key nat_eq key μ ν)) e

    all_pass : (xs : List (Solution ℕ)) → filter (may_meet nat_eq key μ) xs ≡ xs
    all_pass [] = refl
    all_pass (x ∷ xs) = λ j. cond (passes x j) (x ∷ all_pass xs j) (all_pass xs j)

-- the iteration of one row: its place is added if it passes
pub places-turn : (p : Solution ℕ → Bool) (rows : List (Solution ℕ)) (n : ℕ) (b : Bool) → p (get_or rows n []) ≡ b
    → (was now : List ℕ) → was ≡ places_below n p rows → now ≡ was ++ place_if b n → now ≡ places_below (n + 1) p rows
places-turn p rows n b e was now h k =
    k ∙ ap (λ (l : List ℕ). l ++ place_if b n) h
    ∙ ap (λ (c : Bool). places_below n p rows ++ place_if c n) (sym e)
    ∙ sym (places_more p rows n)

-- the numbers of a key are as many as its variables
pub read_wide : (key : List ℕ) (μ : Solution ℕ) (numbers : List ℕ) → map Some numbers ≡ cells key μ → length numbers ≡ length key
read_wide key μ numbers e =
    sym (length-map numbers Some) ∙ ap length e ∙ length-map key (λ v. get_or μ v None)
