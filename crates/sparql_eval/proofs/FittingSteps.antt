-- Joins and filters of which only the solutions that fit are needed.
use Rattle.std.proofs.Common.{◌≡◌, ℕ, zero, suc, ◌<◌, Bool, true, false, cond, ◌&&◌, ◌||◌, is_some, List, [], ◌∷◌, ◌++◌, length, map, filter, take, get_or, slice_get, nat_eq, Option, None, Some, Result, IfOk, refl, sym, ap, ◌∙◌, subst}
use Rattle.std.specs.Option.{option_eq}
use Rattle.std.proofs.lemmas.Bool.{and_parts, false≢true}
use Rattle.std.proofs.lemmas.Bool.Decides.{Decides-eqb}
use Rattle.std.proofs.lemmas.List.Elements.{filter-append}
use Rattle.std.proofs.lemmas.List.Sorted.{IsPermutation-map, IsPermutation-sym, IsPermutation-trans}
use Rattle.std.proofs.lemmas.Option.{slice_get-get_or}
use Rattle.std.proofs.lemmas.Result.{IfOk-weaker}
use Rattle.rdf_core.specs.declared.term.Term.{Term}
use Rattle.rdf_core.proofs.TermLaws.{term_eq, term_decides}
use Rattle.algebra_model.specs.Bag.{IsSameBag}
use Rattle.algebra_model.specs.Expression.{Expression, holds}
use Rattle.algebra_model.specs.Operators.{join, merges}
use Rattle.algebra_model.specs.Renaming.{Each}
use Rattle.algebra_model.specs.Solution.{Solution, agree, bound_or, is_compatible, merge}
use Rattle.algebra_model.proofs.BagLaws.{same_bag}
use Rattle.algebra_model.proofs.CongruenceLaws.{filter-IsSameBag, join-IsSameBag}
use Rattle.algebra_model.proofs.KeyLaws.{agree_at}
use Rattle.algebra_model.proofs.RangeLaws.{Each-IsSameBag, Each-map, join-bound}
use Rattle.algebra_model.proofs.ReadingLaws.{join-read}
use Rattle.dict_core.specs.Dict.{AreDistinct, term_at}
use Rattle.row_core.specs.RowList.{RowList}
use Rattle.sparql_eval.specs.Evaluated.{AreKnown, IsEvaluated, solutions_of}
use Rattle.sparql_eval.specs.Fitting.{IsEvaluatedWhere, Requires, fits, have_one_key, meet}
use Rattle.sparql_eval.specs.KeyedRows.{ArePaired, pairing_key, with_keys}
use Rattle.sparql_eval.specs.Required.{AreRequired, OnSomePair}
use Rattle.sparql_eval.specs.declared.equalities.Equality.{Equality}
use Rattle.sparql_eval.proofs.ClosedSteps.{merges_first}
use Rattle.sparql_eval.proofs.KeySteps.{all_kept, get-merge, keyed_known}
use Rattle.sparql_eval.proofs.ReadingLaws.{Known, equal_by_number, grown_itself, grown_twice, read_by, rows_kept}

-- ---- filters

pub filter-mapped : {X Y : Type 0} (p : Y → Bool) (f : X → Y) (xs : List X) → filter p (map f xs) ≡ map f (filter (λ x. p (f x)) xs)
filter-mapped p f [] = refl
filter-mapped {X} {Y} p f (x ∷ xs) = by (p (f x)) (filter-mapped p f xs)
  where
    by : (b : Bool) → filter p (map f xs) ≡ map f (filter (λ x. p (f x)) xs) → cond b (f x ∷ filter p (map f xs)) (filter p (map f xs)) ≡ map f (cond b (x ∷ filter (λ x. p (f x)) xs) (filter (λ x. p (f x)) xs))
    by true i = ap (λ l. f x ∷ l) i
    by false i = i

pub filter-yes : {X : Type 0} (p : X → Bool) (x : X) (xs : List X) → p x ≡ true → filter p (x ∷ xs) ≡ x ∷ filter p xs
filter-yes p x xs e = ap (λ b. cond b (x ∷ filter p xs) (filter p xs)) e

pub filter-no : {X : Type 0} (p : X → Bool) (x : X) (xs : List X) → p x ≡ false → filter p (x ∷ xs) ≡ filter p xs
filter-no p x xs e = ap (λ b. cond b (x ∷ filter p xs) (filter p xs)) e

not_true : (b : Bool) → (b ≡ true → ⊥) → b ≡ false
not_true true h = absurd (h refl)
not_true false h = refl

-- what passes two filters passes a third one
module _ {X : Type 0} (p q r : X → Bool) (so : (x : X) → q x ≡ true → p x ≡ true → r x ≡ true) where
  pub filters-where : (xs : List X) → filter p (filter q (filter r xs)) ≡ filter p (filter q xs)
  filters-where [] = refl
  filters-where (x ∷ xs) = by (r x) refl (filters-where xs)
    where
      first : (ys : List X) → filter p (filter q (x ∷ ys)) ≡ filter p (filter q (x ∷ [])) ++ filter p (filter q ys)
      first ys = ap (filter p) (filter-append q (x ∷ []) ys) ∙ filter-append p (filter q (x ∷ [])) (filter q ys)

      out : (b : Bool) → q x ≡ b → r x ≡ false → filter p (cond b (x ∷ []) []) ≡ []
      out true e f = filter-no p x [] (not_true (p x) (λ k. false≢true (sym f ∙ so x e k)))
      out false e f = refl

      by : (b : Bool) → r x ≡ b → filter p (filter q (filter r xs)) ≡ filter p (filter q xs) → filter p (filter q (filter r (x ∷ xs))) ≡ filter p (filter q (x ∷ xs))
      by true e i = ap (λ l. filter p (filter q l)) (filter-yes r x xs e) ∙ first (filter r xs) ∙ ap (λ l. filter p (filter q (x ∷ [])) ++ l) i ∙ sym (first xs)
      by false e i = ap (λ l. filter p (filter q l)) (filter-no r x xs e) ∙ i ∙ sym (first xs ∙ ap (λ l. l ++ filter p (filter q xs)) (out (q x) refl e))

-- ---- joins of solutions that pass a test

module _ (test : Solution Term → Bool)
    (of_left : (μ ν : Solution Term) → test (merge μ ν) ≡ true → test μ ≡ true)
    (of_right : (μ ν : Solution Term) → is_compatible term_eq μ ν ≡ true → test (merge μ ν) ≡ true → test ν ≡ true) where
  abbrev kept : Solution Term → List (Solution Term) → List (Solution Term)
  kept μ B = filter test (merges term_eq μ B)

  kept_first : (μ ν : Solution Term) (B : List (Solution Term)) → kept μ (ν ∷ B) ≡ kept μ (ν ∷ []) ++ kept μ B
  kept_first μ ν B = ap (filter test) (merges_first term_eq term_decides μ ν B) ∙ filter-append test (merges term_eq μ (ν ∷ [])) (merges term_eq μ B)

  pair_out : (μ ν : Solution Term) → (is_compatible term_eq μ ν ≡ true → test (merge μ ν) ≡ true → ⊥) → kept μ (ν ∷ []) ≡ []
  pair_out μ ν h = by (is_compatible term_eq μ ν) refl
    where
      by : (c : Bool) → is_compatible term_eq μ ν ≡ c → filter test (map (merge μ) (cond c (ν ∷ []) [])) ≡ []
      by true e = filter-no test (merge μ ν) [] (not_true (test (merge μ ν)) (h e))
      by false e = refl

  row_out : (μ : Solution Term) → test μ ≡ false → (B : List (Solution Term)) → kept μ B ≡ []
  row_out μ e [] = refl
  row_out μ e (ν ∷ B) = kept_first μ ν B ∙ (λ i. pair_out μ ν (λ c k. false≢true (sym e ∙ of_left μ ν k)) i ++ row_out μ e B i)

  row_kept : (μ : Solution Term) (B : List (Solution Term)) → kept μ (filter test B) ≡ kept μ B
  row_kept μ [] = refl
  row_kept μ (ν ∷ B) = by (test ν) refl (row_kept μ B)
    where
      by : (b : Bool) → test ν ≡ b → kept μ (filter test B) ≡ kept μ B → kept μ (filter test (ν ∷ B)) ≡ kept μ (ν ∷ B)
      by true e i = ap (kept μ) (filter-yes test ν B e) ∙ kept_first μ ν (filter test B) ∙ ap (λ l. kept μ (ν ∷ []) ++ l) i ∙ sym (kept_first μ ν B)
      by false e i =
          ap (kept μ) (filter-no test ν B e) ∙ i
          ∙ sym (kept_first μ ν B ∙ ap (λ l. l ++ kept μ B) (pair_out μ ν (λ c k. false≢true (sym e ∙ of_right μ ν c k))))

  both_kept : (A B : List (Solution Term)) → filter test (join term_eq (filter test A) (filter test B)) ≡ filter test (join term_eq A B)
  both_kept [] B = refl
  both_kept (μ ∷ A) B = by (test μ) refl (both_kept A B)
    where
      whole : filter test (join term_eq (μ ∷ A) B) ≡ kept μ B ++ filter test (join term_eq A B)
      whole = filter-append test (merges term_eq μ B) (join term_eq A B)

      by : (b : Bool) → test μ ≡ b → filter test (join term_eq (filter test A) (filter test B)) ≡ filter test (join term_eq A B) → filter test (join term_eq (filter test (μ ∷ A)) (filter test B)) ≡ filter test (join term_eq (μ ∷ A) B)
      by true e h =
          ap (λ l. filter test (join term_eq l (filter test B))) (filter-yes test μ A e)
          ∙ filter-append test (merges term_eq μ (filter test B)) (join term_eq (filter test A) (filter test B))
          ∙ (λ i. row_kept μ B i ++ h i) ∙ sym whole
      by false e h =
          ap (λ l. filter test (join term_eq l (filter test B))) (filter-no test μ A e) ∙ h
          ∙ sym (whole ∙ ap (λ l. l ++ filter test (join term_eq A B)) (row_out μ e B))

  pub joined-where : (A A' B B' : List (Solution Term)) → IsSameBag (filter test A') (filter test A) → IsSameBag (filter test B') (filter test B) → IsSameBag (filter test (join term_eq A' B')) (filter test (join term_eq A B))
  joined-where A A' B B' a b =
      subst (λ l. IsSameBag l (filter test (join term_eq A B))) (both_kept A' B')
      (subst (λ l. IsSameBag (filter test (join term_eq (filter test A') (filter test B'))) l) (both_kept A B)
      (filter-IsSameBag term_eq term_decides test (join term_eq (filter test A') (filter test B')) (join term_eq (filter test A) (filter test B))
      (join-IsSameBag term_eq term_decides (filter test A') (filter test A) (filter test B') (filter test B) a b)))

-- ---- a merge that fits is of solutions that fit

meet_left : (x y a b : Option Term) → meet (bound_or x a) (bound_or y b) ≡ true → meet x y ≡ true
meet_left None y a b h = refl
meet_left (Some s) None a b h = refl
meet_left (Some s) (Some t) a b h = h

meet_right : (x y a b : Option Term) → agree term_eq x a ≡ true → agree term_eq y b ≡ true → meet (bound_or x a) (bound_or y b) ≡ true → meet a b ≡ true
meet_right x y None b p q h = refl
meet_right x y (Some s) None p q h = refl
meet_right None None (Some s) (Some t) p q h = h
meet_right (Some c) None (Some s) (Some t) p q h = subst (λ u. have_one_key u t ≡ true) ((term_decides c s).0 p) h
meet_right None (Some d) (Some s) (Some t) p q h = subst (λ u. have_one_key s u ≡ true) ((term_decides d t).0 q) h
meet_right (Some c) (Some d) (Some s) (Some t) p q h =
    subst (λ u. have_one_key u t ≡ true) ((term_decides c s).0 p) (subst (λ u. have_one_key c u ≡ true) ((term_decides d t).0 q) h)

pub fits_left : (pairs : List Equality) (μ ν : Solution Term) → fits pairs (merge μ ν) ≡ true → fits pairs μ ≡ true
fits_left [] μ ν h = refl
fits_left (p ∷ pairs) μ ν h =
    let b = and_parts (meet (get_or (merge μ ν) p.left.variable None) (get_or (merge μ ν) p.right.variable None)) (fits pairs (merge μ ν)) h in
    λ i. meet_left (get_or μ p.left.variable None) (get_or μ p.right.variable None) (get_or ν p.left.variable None) (get_or ν p.right.variable None)
    (sym (λ j. meet (get-merge μ ν p.left.variable j) (get-merge μ ν p.right.variable j)) ∙ b.0) i && fits_left pairs μ ν b.1 i

pub fits_right : (pairs : List Equality) (μ ν : Solution Term) → is_compatible term_eq μ ν ≡ true → fits pairs (merge μ ν) ≡ true → fits pairs ν ≡ true
fits_right [] μ ν c h = refl
fits_right (p ∷ pairs) μ ν c h =
    let b = and_parts (meet (get_or (merge μ ν) p.left.variable None) (get_or (merge μ ν) p.right.variable None)) (fits pairs (merge μ ν)) h in
    λ i. meet_right (get_or μ p.left.variable None) (get_or μ p.right.variable None) (get_or ν p.left.variable None) (get_or ν p.right.variable None) (agree_at term_eq μ ν c p.left.variable) (agree_at term_eq μ ν c p.right.variable)
    (sym (λ j. meet (get-merge μ ν p.left.variable j) (get-merge μ ν p.right.variable j)) ∙ b.0) i && fits_right pairs μ ν c b.1 i

-- ---- what a condition requires

one_key : (s t : Term) → ArePaired s t → have_one_key s t ≡ true
one_key s t h = by (pairing_key s) refl
  where
    by : (k : Option ℕ) → pairing_key s ≡ k → have_one_key s t ≡ true
    by (Some n) e =
        (λ i. option_eq nat_eq (e i) ((sym h.0 ∙ e) i) && (is_some (e i) || term_eq s t)) ∙ ap (λ b. b && true) ((Decides-eqb n n).1 refl)
    by None e = (λ i. option_eq nat_eq (e i) ((sym h.0 ∙ e) i) && (is_some (e i) || term_eq s t)) ∙ (term_decides s t).1 (h.1 e)

pub required_fits : (e : Expression) (pairs : List Equality) → AreRequired e pairs → Requires (holds e) pairs
required_fits e [] r ρ h = refl
required_fits e (p ∷ pairs) r ρ h =
    let f = r.0 ρ h in
    λ i. ((λ j. meet (f.1.1.0 j) (f.1.1.1.0 j)) ∙ one_key f.0 f.1.0 f.1.1.1.1) i && required_fits e pairs r.1 ρ h i

pub fits-append : (pairs more : List Equality) (ρ : Solution Term) → fits pairs ρ ≡ true → fits more ρ ≡ true → fits (pairs ++ more) ρ ≡ true
fits-append [] more ρ h k = k
fits-append (p ∷ pairs) more ρ h k =
    let b = and_parts (meet (get_or ρ p.left.variable None) (get_or ρ p.right.variable None)) (fits pairs ρ) h in
    λ i. b.0 i && fits-append pairs more ρ b.1 k i

-- the pairs of a condition, followed by others
pub fits_all : (e : Expression) (own more all : List Equality) → AreRequired e own → all ≡ own ++ more → (ρ : Solution Term) → holds e ρ ≡ true → fits more ρ ≡ true → fits all ρ ≡ true
fits_all e own more all r is ρ h k = subst (λ (l : List Equality). fits l ρ ≡ true) (sym is) (fits-append own more ρ (required_fits e own r ρ h) k)

-- what a condition requires of some of its pairs
pub requires_some : (e : Expression) (pairs keys : List Equality) → AreRequired e pairs → Requires (fits pairs) keys → Requires (holds e) keys
requires_some e pairs keys r k ρ h = k ρ (required_fits e pairs r ρ h)

-- one more pair
pub requires_more : (test : Solution Term → Bool) (pairs : List Equality) (p : Equality) → Requires test pairs → Requires test (p ∷ []) → Requires test (pairs ++ p ∷ [])
requires_more test pairs p h r ρ t = fits-append pairs (p ∷ []) ρ (h ρ t) (r ρ t)

-- one of the pairs
pub fits-at : (pairs : List Equality) (i : ℕ) (p : Equality) → slice_get pairs i ≡ Some p → Requires (fits pairs) (p ∷ [])
fits-at [] i p at ρ h = cc
fits-at (q ∷ pairs) zero p at ρ h =
    let b = and_parts (meet (get_or ρ q.left.variable None) (get_or ρ q.right.variable None)) (fits pairs ρ) h in
    let same : q ≡ p = cc in
    subst (λ (x : Equality). fits (x ∷ []) ρ ≡ true) same (λ i. b.0 i && true)
fits-at (q ∷ pairs) (suc i) p at ρ h =
    let b = and_parts (meet (get_or ρ q.left.variable None) (get_or ρ q.right.variable None)) (fits pairs ρ) h in
    fits-at pairs i p at ρ b.1

pub fits-get : (pairs : List Equality) (i : ℕ) (d : Equality) → i < length pairs → Requires (fits pairs) (get_or pairs i d ∷ [])
fits-get pairs i d low = fits-at pairs i (get_or pairs i d) (slice_get-get_or pairs i d low)

-- what one of the pairs requires
pub fits-some : (p : Equality) (pairs : List Equality) (o : Option Equality) (key : Equality) → o ≡ Some key → OnSomePair o (λ k. Requires (fits (p ∷ [])) (k ∷ [])) → Requires (fits pairs) (p ∷ []) → Requires (fits pairs) (key ∷ [])
fits-some p pairs o key is h one ρ t =
    let k = subst (λ (o : Option Equality). OnSomePair o (λ k. Requires (fits (p ∷ [])) (k ∷ []))) is h in
    k ρ (one ρ t)

-- the pair in the other order
pub fits_turned : (p : Equality) → Requires (fits (p ∷ [])) (record { left = p.right; right = p.left } ∷ [])
fits_turned p ρ h =
    let b = and_parts (meet (get_or ρ p.left.variable None) (get_or ρ p.right.variable None)) true h in
    λ i. met (get_or ρ p.left.variable None) (get_or ρ p.right.variable None) b.0 i && true
  where
    same : (a b : Option ℕ) → option_eq nat_eq a b ≡ true → a ≡ b
    same None None h = refl
    same None (Some y) h = absurd (false≢true h)
    same (Some x) None h = absurd (false≢true h)
    same (Some x) (Some y) h = ap Some ((Decides-eqb x y).0 h)

    met : (a b : Option Term) → meet a b ≡ true → meet b a ≡ true
    met None None h = refl
    met None (Some t) h = refl
    met (Some s) None h = refl
    met (Some s) (Some t) h =
        let b = and_parts (option_eq nat_eq (pairing_key s) (pairing_key t)) (is_some (pairing_key s) || term_eq s t) h in
        let e = same (pairing_key s) (pairing_key t) b.0 in
        one_key t s (sym e, λ none. sym ((term_decides s t).0 (sym (ap (λ (k : Option ℕ). is_some k || term_eq s t) (e ∙ none)) ∙ b.1)))

-- ---- rows joined by keys

module _ (terms : List Term) where
  known_taken : (w : ℕ) (μ : Solution ℕ) → Known terms μ → Known terms (take w μ)
  known_taken zero [] h = tt
  known_taken zero (x ∷ μ) h = tt
  known_taken (suc w) [] h = tt
  known_taken (suc w) (None ∷ μ) h = known_taken w μ h
  known_taken (suc w) (Some n ∷ μ) h = (h.0, known_taken w μ h.1)

module _ (terms : List Term) (once : AreDistinct terms) (pairs : List Equality) (w : ℕ) (left right made : RowList)
    (knownL : AreKnown terms left) (knownR : AreKnown terms right)
    (wideL : Each (λ (μ : Solution ℕ). length μ ≡ w) left.rows) (wideR : Each (λ (μ : Solution ℕ). length μ ≡ w) right.rows) where
  abbrev W : Solution ℕ → Solution ℕ
  W μ = with_keys terms (map (λ p. p.left.variable) pairs) μ

  abbrev V : Solution ℕ → Solution ℕ
  V ν = with_keys terms (map (λ p. p.right.variable) pairs) ν

  pub joined_by_keys : (J : List (Solution ℕ)) → IsSameBag J (join nat_eq (map W left.rows) (map V right.rows)) → made.width ≡ left.width → made.rows ≡ map (take w) J
      → IsEvaluatedWhere terms left.width (fits pairs) (join term_eq (solutions_of terms left) (solutions_of terms right)) made terms
  joined_by_keys J bag wide is =
      let test : Solution Term → Bool = fits pairs in
      let f : Solution ℕ → Bool = λ μ. test (read_by terms μ) in
      let g : Solution ℕ → Bool = λ μ. f (take w μ) in
      let K = join nat_eq (map W left.rows) (map V right.rows) in
      let L = join nat_eq left.rows right.rows in
      let known = join-bound (λ n. n < length terms) nat_eq (map W left.rows) (map V right.rows) (keyed_known terms (map (λ p. p.left.variable) pairs) left.rows knownL) (keyed_known terms (map (λ p. p.right.variable) pairs) right.rows knownR) in
      let low = ap (λ (l : List (Solution ℕ)). filter test (map (read_by terms) l)) is ∙ filter-mapped test (read_by terms) (map (take w) J) ∙ ap (map (read_by terms)) (filter-mapped f (take w) J) in
      let high = ap (filter test) (join-read nat_eq term_eq (λ n. n < length terms) (term_at terms) (equal_by_number terms once) left.rows right.rows knownL knownR) ∙ filter-mapped test (read_by terms) L in
      record {
        grown = grown_itself terms;
        wide = wide;
        known = subst (Each (Known terms)) (sym is) (Each-map (Known terms) (Known terms) (take w) (known_taken terms w) J (Each-IsSameBag (Known terms) K J (IsPermutation-sym J K bag) known));
        bag = subst (λ (l : List (Solution Term)). IsSameBag l (filter test (join term_eq (solutions_of terms left) (solutions_of terms right)))) (sym low)
            (subst (λ (l : List (Solution Term)). IsSameBag (map (read_by terms) (map (take w) (filter g J))) l) (ap (map (read_by terms)) (all_kept terms once test pairs (λ ρ h. h) w right.rows knownR wideR left.rows knownL wideL) ∙ sym high)
            (IsPermutation-map (read_by terms) (map (take w) (filter g J)) (map (take w) (filter g K)) (IsPermutation-map (take w) (filter g J) (filter g K) (filter-IsSameBag nat_eq Decides-eqb g J K bag))));
      }

-- only some of the pairs
pub where_keys : (terms : List Term) (w : ℕ) (pairs keys : List Equality) → Requires (fits pairs) keys → (A : List (Solution Term)) (made : RowList) (now : List Term) → IsEvaluatedWhere terms w (fits keys) A made now → IsEvaluatedWhere terms w (fits pairs) A made now
where_keys terms w pairs keys so A made now h =
    let p : Solution Term → Bool = fits pairs in
    let r : Solution Term → Bool = fits keys in
    let all : Solution Term → Bool = λ _. true in
    let is : (X : List (Solution Term)) → filter p (filter r X) ≡ filter p X = λ X. sym (ap (filter p) (all-pass (filter r X))) ∙ filters-where p all r (λ ρ _ t. so ρ t) X ∙ ap (filter p) (all-pass X) in
    record {
      grown = h.grown;
      wide = h.wide;
      known = h.known;
      bag = subst (λ (l : List (Solution Term)). IsSameBag l (filter p A)) (is (solutions_of now made))
          (subst (λ (l : List (Solution Term)). IsSameBag (filter p (filter r (solutions_of now made))) l) (is A) (filter-IsSameBag term_eq term_decides p (filter r (solutions_of now made)) (filter r A) h.bag));
    }
  where
    all-pass : (X : List (Solution Term)) → filter (λ _. true) X ≡ X
    all-pass [] = refl
    all-pass (x ∷ X) = ap (λ l. x ∷ l) (all-pass X)

-- all rows
pub where_any : (terms : List Term) (w : ℕ) (test : Solution Term → Bool) (A : List (Solution Term)) (made : RowList) (now : List Term) → IsEvaluated terms w A made now → IsEvaluatedWhere terms w test A made now
where_any terms w test A made now h = record {
  grown = h.grown;
  wide = h.wide;
  known = h.known;
  bag = filter-IsSameBag term_eq term_decides test (solutions_of now made) A h.bag;
}

-- no equalities leave nothing out
pub where_all : (terms : List Term) (w : ℕ) (A : List (Solution Term)) (made : RowList) (now : List Term) → IsEvaluatedWhere terms w (fits []) A made now → IsEvaluated terms w A made now
where_all terms w A made now h = record {
  grown = h.grown;
  wide = h.wide;
  known = h.known;
  bag = subst (λ (l : List (Solution Term)). IsSameBag l A) (all-pass (solutions_of now made)) (subst (λ (l : List (Solution Term)). IsSameBag (filter (fits []) (solutions_of now made)) l) (all-pass A) h.bag);
}
  where
    all-pass : (X : List (Solution Term)) → filter (fits []) X ≡ X
    all-pass [] = refl
    all-pass (x ∷ X) = ap (λ l. x ∷ l) (all-pass X)

-- ---- one operator after another, while the dictionary grows

pub where_filtered : {E : Type 0} (t0 t1 : List Term) (w : ℕ) (r : Result (RowList × List Term) E) (e : Expression) (pairs all : List Equality) → ((ρ : Solution Term) → holds e ρ ≡ true → fits pairs ρ ≡ true → fits all ρ ≡ true)
    → (A : List (Solution Term)) (rows : RowList) → IsEvaluatedWhere t0 w (fits all) A rows t1
    → IfOk r (λ x. IsEvaluated t1 rows.width (filter (holds e) (solutions_of t1 rows)) x.0 x.1) → IfOk r (λ x. IsEvaluatedWhere t0 w (fits pairs) (filter (holds e) A) x.0 x.1)
where_filtered t0 t1 w r e pairs all so A rows h k =
    let p : Solution Term → Bool = fits pairs in
    let q : Solution Term → Bool = holds e in
    let a : Solution Term → Bool = fits all in
    let S = solutions_of t1 rows in
    IfOk-weaker r (λ x. IsEvaluated t1 rows.width (filter q S) x.0 x.1) (λ x. IsEvaluatedWhere t0 w p (filter q A) x.0 x.1)
    (λ x m. record {
      grown = grown_twice t0 t1 x.1 h.grown m.grown;
      wide = m.wide ∙ h.wide;
      known = m.known;
      bag = IsPermutation-trans (filter p (solutions_of x.1 x.0)) (filter p (filter q S)) (filter p (filter q A))
          (filter-IsSameBag term_eq term_decides p (solutions_of x.1 x.0) (filter q S) m.bag)
          (subst (λ (l : List (Solution Term)). IsSameBag l (filter p (filter q A))) (filters-where p q a so S)
          (subst (λ (l : List (Solution Term)). IsSameBag (filter p (filter q (filter a S))) l) (filters-where p q a so A)
          (filter-IsSameBag term_eq term_decides p (filter q (filter a S)) (filter q (filter a A)) (filter-IsSameBag term_eq term_decides q (filter a S) (filter a A) h.bag))));
    }) k

module _ (pairs : List Equality) where
  -- the left input is evaluated before the right one
  pub where_joined : {E : Type 0} (t0 t1 : List Term) (w : ℕ) (r : Result (RowList × List Term) E) (A B B' : List (Solution Term)) (left : RowList) → B' ≡ B → IsEvaluatedWhere t0 w (fits pairs) A left t1
      → IfOk r (λ x. IsEvaluatedWhere t1 left.width (fits pairs) (join term_eq (solutions_of t1 left) B') x.0 x.1) → IfOk r (λ x. IsEvaluatedWhere t0 w (fits pairs) (join term_eq A B) x.0 x.1)
  where_joined t0 t1 w r A B B' left is h k =
      let p : Solution Term → Bool = fits pairs in
      let S = solutions_of t1 left in
      IfOk-weaker r (λ x. IsEvaluatedWhere t1 left.width p (join term_eq S B') x.0 x.1) (λ x. IsEvaluatedWhere t0 w p (join term_eq A B) x.0 x.1)
      (λ x m. record {
        grown = grown_twice t0 t1 x.1 h.grown m.grown;
        wide = m.wide ∙ h.wide;
        known = m.known;
        bag = IsPermutation-trans (filter p (solutions_of x.1 x.0)) (filter p (join term_eq S B')) (filter p (join term_eq A B)) m.bag
            (joined-where p (fits_left pairs) (fits_right pairs) A S B B' h.bag (same_bag (filter p B') (filter p B) (ap (filter p) is)));
      }) k

  -- the right input is evaluated after the left one, whose rows are unchanged
  pub where_right : {E : Type 0} (t0 t1 : List Term) (w : ℕ) (r : Result (RowList × List Term) E) (B : List (Solution Term)) (left right : RowList) → AreKnown t0 left → IsEvaluatedWhere t0 w (fits pairs) B right t1
      → IfOk r (λ x. IsEvaluatedWhere t1 left.width (fits pairs) (join term_eq (solutions_of t1 left) (solutions_of t1 right)) x.0 x.1) → IfOk r (λ x. IsEvaluatedWhere t0 left.width (fits pairs) (join term_eq (solutions_of t0 left) B) x.0 x.1)
  where_right t0 t1 w r B left right known h k =
      let p : Solution Term → Bool = fits pairs in
      let L = solutions_of t1 left in
      let R = solutions_of t1 right in
      let M = solutions_of t0 left in
      IfOk-weaker r (λ x. IsEvaluatedWhere t1 left.width p (join term_eq L R) x.0 x.1) (λ x. IsEvaluatedWhere t0 left.width p (join term_eq M B) x.0 x.1)
      (λ x m. record {
        grown = grown_twice t0 t1 x.1 h.grown m.grown;
        wide = m.wide;
        known = m.known;
        bag = IsPermutation-trans (filter p (solutions_of x.1 x.0)) (filter p (join term_eq L R)) (filter p (join term_eq M B)) m.bag
            (joined-where p (fits_left pairs) (fits_right pairs) M L B R (same_bag (filter p L) (filter p M) (ap (filter p) (rows_kept t0 t1 h.grown left.rows known).1)) h.bag);
      }) k

  pub where_any_ok : {E : Type 0} (t : List Term) (w : ℕ) (r : Result (RowList × List Term) E) (A : List (Solution Term)) → IfOk r (λ x. IsEvaluated t w A x.0 x.1) → IfOk r (λ x. IsEvaluatedWhere t w (fits pairs) A x.0 x.1)
  where_any_ok t w r A k = IfOk-weaker r (λ x. IsEvaluated t w A x.0 x.1) (λ x. IsEvaluatedWhere t w (fits pairs) A x.0 x.1) (λ x m. where_any t w (fits pairs) A x.0 x.1 m) k

  pub where_whole : {E : Type 0} (t : List Term) (w : ℕ) (r : Result (RowList × List Term) E) (A whole : List (Solution Term)) → whole ≡ A → IfOk r (λ x. IsEvaluatedWhere t w (fits pairs) A x.0 x.1) → IfOk r (λ x. IsEvaluatedWhere t w (fits pairs) whole x.0 x.1)
  where_whole t w r A whole is k = subst (λ (W : List (Solution Term)). IfOk r (λ x. IsEvaluatedWhere t w (fits pairs) W x.0 x.1)) (sym is) k
