-- Partitions by subject or graph are parts in which nothing is twice.
use Rattle.std.proofs.Common.{◌≡◌, ℕ, zero, suc, ◌+◌, ◌<◌, ◌≤◌, ◌%◌, ◌&&◌, ◌||◌, Bool, true, false, cond, nat_eq, List, [], ◌∷◌, ◌++◌, length, get_or, map, filter, Option, None, Some, option_map, Contains, Decides, refl, sym, ap, subst, ◌∙◌, ⊎_elim, arith, append-nil, eq-eqb, is_some}
use Rattle.std.specs.Prelude.{is_none}
use Rattle.std.specs.Cmp.{both_ways}
use Rattle.std.specs.List.{list_any}
use Rattle.std.specs.Option.{option_eq}
use Rattle.std.proofs.lemmas.Bool.{cases_Bool, eqb-true, false≢true, or_cases}
use Rattle.std.proofs.lemmas.List.Folds.{list_any-append}
use Rattle.std.proofs.lemmas.Nat.{mod_below}
use Rattle.rdf_core.specs.declared.term.Term.{Term}
use Rattle.rdf_core.specs.QuadParts.{QuadParts}
use Rattle.rdf_core.proofs.TermLaws.{term_eq}
use Rattle.algebra_model.specs.Bag.{IsSameSet}
use Rattle.algebra_model.specs.Bgp.{Triple, same_triple_by}
use Rattle.algebra_model.specs.Dataset.{graph, triple_of}
use Rattle.algebra_model.specs.Pieces.{joined}
use Rattle.algebra_model.specs.Renaming.{Each}
use Rattle.algebra_model.proofs.RangeLaws.{Each-append}
use Rattle.algebra_model.proofs.SetLaws.{AreAlike}
use Rattle.quad_index.specs.Laws.{same_parts}
use Rattle.quad_index.proofs.ReadingLaws.{parts_decides}
use Rattle.cluster_parts.specs.Hash.{graph_key, subject_key, term_hash}
use Rattle.cluster_parts.specs.Parts.{has_key, quads_in}
use Rattle.cluster_parts.proofs.SetCounts.{any-filter_is}
use Rattle.query_split.specs.declared.split.Split.TheVariants as by
use Rattle.query_split.specs.Parts.{AreParts, HaveOneName}
use Rattle.query_split.proofs.OperatorSplits as each
use Rattle.query_split.proofs.PatternSplits.{triple_decides}
use Rattle.query_split.proofs.SplitLaws.{graph-append}
use Rattle.partition_laws.specs.Partitions.{graph_part, name_part, parts_of, subject_part, GraphsAreParts, NamesAreParts, SubjectsAreParts}

right_true : (a b : Bool) → b ≡ true → (a || b) ≡ true
right_true true b e = refl
right_true false b e = e

-- ---- the same set, by tests

module _ {X : Type 0} (same : X → X → Bool) (decides : (x y : X) → Decides (same x y) (x ≡ y)) where
  contained : (x : X) (xs : List X) → list_any (same x) xs ≡ true → Contains xs x
  contained x [] e = absurd (false≢true e)
  contained x (y ∷ xs) e =
      let more = λ (f : list_any (same x) xs ≡ true). contained x xs f in
      ⊎_elim
      (λ (f : same x y ≡ true). (0, omega arith, sym ((decides x y).0 f)))
      (λ (f : same x y ≡ false). let r = more (sym (ap (λ b. b || list_any (same x) xs) f) ∙ e) in (suc r.0, omega (arith, r.1), r.2))
      (cases_Bool (same x y))

  found : (x : X) (xs : List X) (k : ℕ) → k < length xs → get_or xs k x ≡ x → list_any (same x) xs ≡ true
  found x [] k l e = absurd (omega arith)
  found x (y ∷ xs) zero l e = ap (λ b. b || list_any (same x) xs) ((decides x y).1 (sym e))
  found x (y ∷ xs) (suc k) l e = right_true (same x y) (list_any (same x) xs) (found x xs k (omega arith) e)

  set_of_tests : (xs ys : List X) → ((x : X) → list_any (same x) xs ≡ list_any (same x) ys) → IsSameSet xs ys
  set_of_tests xs ys h x =
      (λ c. contained x ys (sym (h x) ∙ found x xs c.0 c.1 c.2), λ c. contained x xs (h x ∙ found x ys c.0 c.1 c.2))

-- ---- all quads are in a partition

module _ (f : ℕ → List QuadParts) where
  none_more : (D : List QuadParts) (x : QuadParts) → ((n : ℕ) → list_any (same_parts x) (f n) ≡ true → list_any (same_parts x) D ≡ true)
      → (n m : ℕ) → list_any (same_parts x) (joined (parts_of f n m)) ≡ true → list_any (same_parts x) D ≡ true
  none_more D x sub n zero e = absurd (false≢true e)
  none_more D x sub n (suc m) e =
      let more = λ (g : list_any (same_parts x) (joined (parts_of f (suc n) m)) ≡ true). none_more D x sub (suc n) m g in
      ⊎_elim (λ g. sub n g) more (or_cases (list_any (same_parts x) (f n)) (list_any (same_parts x) (joined (parts_of f (suc n) m))) (sym (list_any-append (same_parts x) (f n) (joined (parts_of f (suc n) m))) ∙ e))

  in_one : (x : QuadParts) (j : ℕ) → list_any (same_parts x) (f j) ≡ true → (n m : ℕ) → n ≤ j → j < n + m → list_any (same_parts x) (joined (parts_of f n m)) ≡ true
  in_one x j e n zero a b = absurd (omega arith)
  in_one x j e n (suc m) a b =
      let later = λ (h : suc n ≤ j). in_one x j e (suc n) m h (omega (arith, b)) in
      list_any-append (same_parts x) (f n) (joined (parts_of f (suc n) m))
      ∙ ⊎_elim
      (λ (h : nat_eq n j ≡ true). ap (λ b. b || list_any (same_parts x) (joined (parts_of f (suc n) m))) (ap (λ k. list_any (same_parts x) (f k)) (eqb-true n j h) ∙ e))
      (λ (h : nat_eq n j ≡ false). right_true (list_any (same_parts x) (f n)) (list_any (same_parts x) (joined (parts_of f (suc n) m))) (later (omega (arith, a, different h))))
      (cases_Bool (nat_eq n j))
    where
      different : nat_eq n j ≡ false → n ≡ j → ⊥
      different h s = false≢true (sym h ∙ eq-eqb n j s)

  all_there : (D : List QuadParts) (count : ℕ) → ((x : QuadParts) (n : ℕ) → list_any (same_parts x) (f n) ≡ true → list_any (same_parts x) D ≡ true)
      → ((x : QuadParts) → list_any (same_parts x) D ≡ true → (j : ℕ) × (j < count) × (list_any (same_parts x) (f j) ≡ true)) → IsSameSet D (joined (parts_of f 0 count))
  all_there D count sub cover = set_of_tests same_parts parts_decides D (joined (parts_of f 0 count))
      (λ x. both_ways (list_any (same_parts x) D) (list_any (same_parts x) (joined (parts_of f 0 count)))
      (λ e. let c = cover x e in in_one x c.0 c.2 0 count (omega arith) (omega (arith, c.1)))
      (λ e. none_more D x (sub x) 0 count e))

-- ---- the partition of a quad

module _ (key : QuadParts → Option ℕ) (count : ℕ) where
  -- the partition of a quad, if it has a key
  abbrev home : QuadParts → Option ℕ
  home q = option_map (λ h. h % count) (key q)

  -- the quad has no key, or it is in this partition
  abbrev LivesAt : ℕ → QuadParts → Type 0
  LivesAt n q = (j : ℕ) → home q ≡ Some j → j ≡ n

  -- the quad has no key, or it is in this partition or a later one
  abbrev LivesFrom : ℕ → QuadParts → Type 0
  LivesFrom n q = (j : ℕ) → home q ≡ Some j → n ≤ j

  some_is : (x y : ℕ) → Some x ≡ Some y → x ≡ y
  some_is x y e = ap get e
    where
      get : Option ℕ → ℕ
      get None = x
      get (Some z) = z

  lives : (n : ℕ) (q : QuadParts) (o : Option ℕ) → key q ≡ o → has_key count n o ≡ true → LivesAt n q
  lives n q None e h = absurd (false≢true h)
  lives n q (Some k) e h = λ j f. sym (some_is (k % count) j (sym (ap (option_map (λ h. h % count)) e) ∙ f)) ∙ eqb-true (k % count) n h

  in_partition : (n : ℕ) (D : List QuadParts) → Each (LivesAt n) (quads_in key count n D)
  in_partition n [] = tt
  in_partition n (q ∷ D) = by (has_key count n (key q)) refl (in_partition n D)
    where
      by : (b : Bool) → has_key count n (key q) ≡ b → Each (LivesAt n) (quads_in key count n D) → Each (LivesAt n) (cond b (q ∷ quads_in key count n D) (quads_in key count n D))
      by true e h = (lives n q (key q) refl e, h)
      by false e h = h

  from_at : (n m : ℕ) → n ≤ m → (q : QuadParts) → LivesAt m q → LivesFrom n q
  from_at n m low q h j e = let same = h j e in omega (arith, same)

  module _ (f : ℕ → List QuadParts) (at : (n : ℕ) → Each (LivesAt n) (f n)) where
    live_from : (k n m : ℕ) → k ≤ n → Each (LivesFrom k) (joined (parts_of f n m))
    live_from k n zero low = tt
    live_from k n (suc m) low =
        Each-append (LivesFrom k) (f n) (joined (parts_of f (suc n) m)) (each.Each-map (λ q h. from_at k n low q h) (f n) (at n)) (live_from k (suc n) m (omega arith))

    -- quads of different parts do not meet, if quads that meet are in the same partition
    apart_from : (Meets : QuadParts → QuadParts → Type 0) → ((q r : QuadParts) → Meets q r → (j : ℕ) × (home q ≡ Some j) × (home r ≡ Some j))
        → (n m : ℕ) → Each (λ q. Each (λ r. Meets q r → ⊥) (joined (parts_of f (suc n) m))) (f n)
    apart_from Meets one n m =
        each.Each-map
        (λ q h. each.Each-map (λ r k meets. let t = one q r meets in let a = h t.0 t.1 in let b = k t.0 t.2 in absurd (omega (arith, a, b))) (joined (parts_of f (suc n) m)) (live_from (suc n) (suc n) m (omega arith)))
        (f n) (at n)

-- ---- by subject

same_subject : (count : ℕ) (q r : QuadParts) → q.s ≡ r.s → (j : ℕ) × (home subject_key count q ≡ Some j) × (home subject_key count r ≡ Some j)
same_subject count q r e = (term_hash q.s % count, refl, ap (λ (t : Term). Some (term_hash t % count)) (sym e))

subjects_apart : (count : ℕ) (D : List QuadParts) (n m : ℕ) → AreParts by.Subject (subject_part count D n) (parts_of (subject_part count D) (suc n) m)
subjects_apart count D n zero = tt
subjects_apart count D n (suc m) = (
  apart_from subject_key count (subject_part count D) (λ n. in_partition subject_key count n D) (λ q r. q.s ≡ r.s) (same_subject count) n (suc m),
  subjects_apart count D (suc n) m,
)

and_right : (a b : Bool) → (a && b) ≡ true → b ≡ true
and_right true b e = e
and_right false b e = absurd (false≢true e)

pub subjects_are_parts : SubjectsAreParts
subjects_are_parts partitions D =
    let count = suc partitions in
    let f = subject_part count D in
    let is = λ (x : QuadParts) (n : ℕ). any-filter_is same_parts parts_decides (λ q. has_key count n (subject_key q)) x D in (
      subjects_apart count D 0 partitions,
      all_there f D count
          (λ x n e. and_right (has_key count n (subject_key x)) (list_any (same_parts x) D) (sym (is x n) ∙ e))
          (λ x e.
          let j = term_hash x.s % count in
          (j, mod_below (term_hash x.s) count (omega arith), is x j ∙ (λ i. eq-eqb j j refl i && e i))),
    )

-- ---- by graph

same_name : (count : ℕ) (q r : QuadParts) → HaveOneName q r → (j : ℕ) × (home graph_key count q ≡ Some j) × (home graph_key count r ≡ Some j)
same_name count q r e =
    let of : Option Term → Option ℕ = λ g. option_map (λ h. h % count) (option_map term_hash g) in
    (term_hash e.0 % count, ap of e.1, ap of e.2)

-- a quad without a key is in no partition
unkeyed_lives : (count n : ℕ) (q : QuadParts) → is_none (graph_key q) ≡ true → LivesAt graph_key count n q
unkeyed_lives count n q e j f = by (graph_key q) e f
  where
    by : (o : Option ℕ) → is_none o ≡ true → option_map (λ h. h % count) o ≡ Some j → j ≡ n
    by None e f = absurd (false≢true (ap is_some f))
    by (Some k) e f = absurd (false≢true e)

unkeyed_live : (count n : ℕ) (D : List QuadParts) → Each (LivesAt graph_key count n) (filter (λ q. is_none (graph_key q)) D)
unkeyed_live count n [] = tt
unkeyed_live count n (q ∷ D) = by (is_none (graph_key q)) refl (unkeyed_live count n D)
  where
    by : (b : Bool) → is_none (graph_key q) ≡ b → Each (LivesAt graph_key count n) (filter (λ q. is_none (graph_key q)) D)
        → Each (LivesAt graph_key count n) (cond b (q ∷ filter (λ q. is_none (graph_key q)) D) (filter (λ q. is_none (graph_key q)) D))
    by true e h = (unkeyed_lives count n q e, h)
    by false e h = h

graph_live : (count : ℕ) (D : List QuadParts) (n : ℕ) → Each (LivesAt graph_key count n) (graph_part count D n)
graph_live count D n =
    Each-append (LivesAt graph_key count n) (filter (λ q. is_none (graph_key q)) D) (quads_in graph_key count n D) (unkeyed_live count n D) (in_partition graph_key count n D)

-- the quads of a partition are not in the default graph
no_default : (count n : ℕ) (D : List QuadParts) → graph (quads_in graph_key count n D) None ≡ []
no_default count n [] = refl
no_default count n (q ∷ D) = by (has_key count n (graph_key q)) refl (no_default count n D)
  where
    named : (g : Option Term) → has_key count n (option_map term_hash g) ≡ true → option_eq term_eq g None ≡ false
    named None e = absurd (false≢true e)
    named (Some t) e = refl

    by : (b : Bool) → has_key count n (graph_key q) ≡ b → graph (quads_in graph_key count n D) None ≡ []
        → graph (cond b (q ∷ quads_in graph_key count n D) (quads_in graph_key count n D)) None ≡ []
    by true e ih =
        ap (λ b. map triple_of (cond b (q ∷ filter (λ q. option_eq term_eq q.g None) (quads_in graph_key count n D)) (filter (λ q. option_eq term_eq q.g None) (quads_in graph_key count n D)))) (named q.g e) ∙ ih
    by false e ih = ih

abbrev default_of : List QuadParts → List (Triple Term)
default_of D = graph (filter (λ q. is_none (graph_key q)) D) None

one_default : (count : ℕ) (D : List QuadParts) (n : ℕ) → graph (graph_part count D n) None ≡ default_of D
one_default count D n =
    graph-append (filter (λ q. is_none (graph_key q)) D) (quads_in graph_key count n D) None ∙ ap (λ l. default_of D ++ l) (no_default count n D)
    ∙ append-nil (default_of D)

same_default : (count : ℕ) (D : List QuadParts) (n m : ℕ) → AreAlike (default_of D) (graph (joined (parts_of (graph_part count D) n (suc m))) None)
same_default count D n zero p =
    ap (list_any p) (sym (one_default count D n)) ∙ ap (λ E. list_any p (graph E None)) (sym (append-nil (graph_part count D n)))
same_default count D n (suc m) p =
    let rest = joined (parts_of (graph_part count D) (suc n) (suc m)) in
    sym (twice (list_any p (default_of D))) ∙ (λ i. list_any p (sym (one_default count D n) i) || same_default count D (suc n) m p i)
    ∙ sym (list_any-append p (graph (graph_part count D n) None) (graph rest None)) ∙ ap (list_any p) (sym (graph-append (graph_part count D n) rest None))
  where
    twice : (b : Bool) → (b || b) ≡ b
    twice true = refl
    twice false = refl

set_of_alike : (G H : List (Triple Term)) → AreAlike G H → IsSameSet G H
set_of_alike G H a = set_of_tests (same_triple_by term_eq) triple_decides G H (λ x. a (same_triple_by term_eq x))

graphs_apart : (count : ℕ) (D : List QuadParts) (n m : ℕ) → AreParts by.GraphWithDefault (graph_part count D n) (parts_of (graph_part count D) (suc n) m)
graphs_apart count D n zero = tt
graphs_apart count D n (suc m) = (
  (
    apart_from graph_key count (graph_part count D) (graph_live count D) HaveOneName (same_name count) n (suc m),
    subst (λ G. IsSameSet G (graph (joined (parts_of (graph_part count D) (suc n) (suc m))) None)) (sym (one_default count D n)) (set_of_alike (default_of D) (graph (joined (parts_of (graph_part count D) (suc n) (suc m))) None) (same_default count D (suc n) m)),
  ),
  graphs_apart count D (suc n) m,
)

left_or : (a b : Bool) → a ≡ true → (a || b) ≡ true
left_or a b e = ap (λ c. c || b) e

-- a quad of a part is one of the dataset
graph_sub : (count : ℕ) (D : List QuadParts) (x : QuadParts) (n : ℕ) → list_any (same_parts x) (graph_part count D n) ≡ true → list_any (same_parts x) D ≡ true
graph_sub count D x n e =
    let U = filter (λ q. is_none (graph_key q)) D in
    ⊎_elim
    (λ g. and_right (is_none (graph_key x)) (list_any (same_parts x) D) (sym (any-filter_is same_parts parts_decides (λ q. is_none (graph_key q)) x D) ∙ g))
    (λ g. and_right (has_key count n (graph_key x)) (list_any (same_parts x) D) (sym (any-filter_is same_parts parts_decides (λ q. has_key count n (graph_key q)) x D) ∙ g))
    (or_cases (list_any (same_parts x) U) (list_any (same_parts x) (quads_in graph_key count n D)) (sym (list_any-append (same_parts x) U (quads_in graph_key count n D)) ∙ e))

pub graphs_are_parts : GraphsAreParts
graphs_are_parts partitions D =
    let count = suc partitions in
    let f = graph_part count D in
    let U = filter (λ q. is_none (graph_key q)) D in
    let is = λ (x : QuadParts) (n : ℕ). any-filter_is same_parts parts_decides (λ q. has_key count n (graph_key q)) x D in
    let isU = λ (x : QuadParts). any-filter_is same_parts parts_decides (λ q. is_none (graph_key q)) x D in
    let split = λ (x : QuadParts) (n : ℕ). list_any-append (same_parts x) U (quads_in graph_key count n D) in (
      graphs_apart count D 0 partitions,
      all_there f D count
          (graph_sub count D)
          (λ x e. cover x e count (omega arith) (isU x) (is x) (split x) (graph_key x) refl),
    )
  where
    cover : (x : QuadParts) → list_any (same_parts x) D ≡ true → (count : ℕ) → 0 < count
        → list_any (same_parts x) (filter (λ q. is_none (graph_key q)) D) ≡ (is_none (graph_key x) && list_any (same_parts x) D)
        → ((n : ℕ) → list_any (same_parts x) (quads_in graph_key count n D) ≡ (has_key count n (graph_key x) && list_any (same_parts x) D))
        → ((n : ℕ) → list_any (same_parts x) (graph_part count D n) ≡ (list_any (same_parts x) (filter (λ q. is_none (graph_key q)) D) || list_any (same_parts x) (quads_in graph_key count n D)))
        → (o : Option ℕ) → graph_key x ≡ o → (j : ℕ) × (j < count) × (list_any (same_parts x) (graph_part count D j) ≡ true)
    cover x e count some isU is split None f =
        (0, some, split 0 ∙ left_or _ _ (isU ∙ (λ i. is_none (f i) && e i)))
    cover x e count some isU is split (Some h) f =
        let j = h % count in
        (j, mod_below h count some, split j ∙ right_true _ _ (is j ∙ (λ i. has_key count j (f i) && e i) ∙ ap (λ b. b && true) (eq-eqb j j refl)))

-- ---- by graph, with the default graph in the first partition alone

name_live : (count : ℕ) (D : List QuadParts) (n : ℕ) → Each (LivesAt graph_key count n) (name_part count D n)
name_live count D zero = graph_live count D 0
name_live count D (suc n) = in_partition graph_key count (suc n) D

names_apart : (count : ℕ) (D : List QuadParts) (n m : ℕ) → AreParts by.Graph (name_part count D n) (parts_of (name_part count D) (suc n) m)
names_apart count D n zero = tt
names_apart count D n (suc m) =
    (apart_from graph_key count (name_part count D) (name_live count D) HaveOneName (same_name count) n (suc m), names_apart count D (suc n) m)

-- a quad of a part is one of the part with the whole default graph
name_sub : (count : ℕ) (D : List QuadParts) (x : QuadParts) (n : ℕ) → list_any (same_parts x) (name_part count D n) ≡ true → list_any (same_parts x) (graph_part count D n) ≡ true
name_sub count D x zero e = e
name_sub count D x (suc n) e =
    list_any-append (same_parts x) (filter (λ q. is_none (graph_key q)) D) (quads_in graph_key count (suc n) D) ∙ right_true _ _ e

-- a quad of a partition is one of its part
name_has : (count : ℕ) (D : List QuadParts) (x : QuadParts) (n : ℕ) → list_any (same_parts x) (quads_in graph_key count n D) ≡ true → list_any (same_parts x) (name_part count D n) ≡ true
name_has count D x zero e =
    list_any-append (same_parts x) (filter (λ q. is_none (graph_key q)) D) (quads_in graph_key count 0 D) ∙ right_true _ _ e
name_has count D x (suc n) e = e

name_cover : (count : ℕ) (D : List QuadParts) (x : QuadParts) → 0 < count → list_any (same_parts x) D ≡ true → (o : Option ℕ) → graph_key x ≡ o
    → (j : ℕ) × (j < count) × (list_any (same_parts x) (name_part count D j) ≡ true)
name_cover count D x some e None f = (
  0,
  some,
  list_any-append (same_parts x) (filter (λ q. is_none (graph_key q)) D) (quads_in graph_key count 0 D)
      ∙ left_or _ _ (any-filter_is same_parts parts_decides (λ q. is_none (graph_key q)) x D ∙ (λ i. is_none (f i) && e i)),
)
name_cover count D x some e (Some h) f =
    let j = h % count in (
      j,
      mod_below h count some,
      name_has count D x j
          (any-filter_is same_parts parts_decides (λ q. has_key count j (graph_key q)) x D ∙ (λ i. has_key count j (f i) && e i) ∙ ap (λ b. b && true) (eq-eqb j j refl)),
    )

pub names_are_parts : NamesAreParts
names_are_parts partitions D =
    let count = suc partitions in (
      names_apart count D 0 partitions,
      all_there (name_part count D) D count
          (λ x n e. graph_sub count D x n (name_sub count D x n e))
          (λ x e. name_cover count D x (omega arith) e (graph_key x) refl),
    )
