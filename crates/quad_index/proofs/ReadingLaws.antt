-- An index of numbered quads, read through their dictionary, is the set of the quads. For the layer
-- above: it reads what a scan gives as quads of terms.
use Rattle.std.proofs.Common.{◌≡◌, ℕ, zero, suc, ◌<◌, Bool, true, false, ◌&&◌, ◌||◌, List, [], ◌∷◌, length, get_or, map, filter, filter_map, nat_eq, Option, None, Some, Contains, Decides, IsPermutation, refl, sym, ap, ◌∙◌, subst, true≢false, arith}
use Rattle.std.specs.List.{All, list_any, cons_option}
use Rattle.std.specs.Option.{option_map, option_eq, ForSome}
use Rattle.std.proofs.lemmas.Bool.Decides.{Decides-eqb}
use Rattle.std.specs.Cmp.{decided}
use Rattle.std.proofs.lemmas.Map.Views.{list_any-from_Contains}
use Rattle.std.proofs.lemmas.List.Elements.{All-contains, All-head, All-tail, All-cons, Contains-get_or}
use Rattle.std.proofs.lemmas.List.Sorted.{Contains-permutation, IsPermutation-sym, IsPermutation-trans, IsPermutation-map}
use Rattle.rdf_core.specs.declared.term.Term.{Term}
use Rattle.rdf_core.specs.declared.term.Term.TheVariants.{Blank}
use Rattle.rdf_core.specs.QuadParts.{QuadParts}
use Rattle.algebra_model.specs.Bag.{IsWithoutRepeats, without_repeats, IsSameSet}
use Rattle.algebra_model.proofs.RepeatLaws.{any-without_repeats_is, IsWithoutRepeats-without_repeats}
use Rattle.algebra_model.proofs.SetLaws.{alike_from_set, without_repeats-alike}
use Rattle.dict_core.specs.declared.num_quad.NumQuad.{NumQuad}
use Rattle.dict_core.specs.Dict.{term_at}
use Rattle.dict_core.specs.NumQuad.{quad_at, quads_at, IsBelow, AreBelow}
use Rattle.dict_core.specs.Numbered.{IsNumbered}
use Rattle.dict_core.specs.Appearances.{terms_of, first_appearances, differs_from}
use Rattle.rdf_core.proofs.TermLaws.{term_eq, term_decides}
use Rattle.algebra_model.specs.Dataset.{names}
use Rattle.quad_index.specs.Matching.{graph_names}
use Rattle.quad_index.specs.Laws.{same_parts}
use Rattle.dict_core.proofs.NumQuadLaws.{quad_eq, quad_decides}
use Rattle.quad_index.proofs.OnceLaws.{once_already}

module _ {X : Type 0} (same : X → X → Bool) (decides : (x y : X) → Decides (same x y) (x ≡ y)) where
  -- what a look-up finds is there
  contained : (xs : List X) (x : X) → list_any (same x) xs ≡ true → Contains xs x
  contained [] x h = absurd (true≢false (sym h))
  contained (y ∷ ys) x h = by (same x y) refl h (contained ys x)
    where
      by : (b : Bool) → same x y ≡ b → (b || list_any (same x) ys) ≡ true → (list_any (same x) ys ≡ true → Contains ys x) → Contains (y ∷ ys) x
      by true e h rest = (0, omega arith, sym ((decides x y).0 e))
      by false e h rest = let r = rest h in (suc r.0, omega (arith, r.1), r.2)

  contains_once : (xs : List X) (x : X) → Contains xs x → Contains (without_repeats same xs) x
  contains_once xs x h =
      contained (without_repeats same xs) x
      (any-without_repeats_is same decides x xs ∙ list_any-from_Contains (decided same decides) x xs h)

  once_contains : (xs : List X) (x : X) → Contains (without_repeats same xs) x → Contains xs x
  once_contains xs x h =
      contained xs x
      (sym (any-without_repeats_is same decides x xs) ∙ list_any-from_Contains (decided same decides) x (without_repeats same xs) h)

  -- a list that has each element of another once has the same elements
  pub set_of_once : (xs ys : List X) → IsPermutation (without_repeats same xs) ys → IsSameSet ys xs
  set_of_once xs ys h x = (
    (λ inside. once_contains xs x (Contains-permutation ys (without_repeats same xs) x (IsPermutation-sym (without_repeats same xs) ys h) inside)),
    λ inside. Contains-permutation (without_repeats same xs) ys x h (contains_once xs x inside),
  )

contains_map : {X Y : Type 0} (f : X → Y) (xs : List X) (x : X) → Contains xs x → Contains (map f xs) (f x)
contains_map f xs x h = by xs h.0 h.1 h.2
  where
    by : (xs : List _) (k : ℕ) → k < length xs → get_or xs k x ≡ x → Contains (map f xs) (f x)
    by [] k below is = absurd (omega arith)
    by (y ∷ ys) zero below is = (0, omega arith, ap f is)
    by (y ∷ ys) (suc k) below is = let r = by ys k (omega arith) is in (suc r.0, omega (arith, r.1), r.2)

from_map : {X Y : Type 0} (f : X → Y) (xs : List X) (y : Y) → Contains (map f xs) y → (x : X) × Contains xs x × (f x ≡ y)
from_map f xs y h = by xs h.0 h.1 h.2
  where
    by : (xs : List _) (k : ℕ) → k < length (map f xs) → get_or (map f xs) k y ≡ y → (x : _) × Contains xs x × (f x ≡ y)
    by [] k below is = absurd (omega arith)
    by (x ∷ xs) zero below is = (x, (0, omega arith, refl), is)
    by (x ∷ xs) (suc k) below is = let r = by xs k (omega arith) is in (r.0, (suc r.1.0, omega (arith, r.1.1), r.1.2), r.2)

set_of_map : {X Y : Type 0} (f : X → Y) (xs ys : List X) → IsSameSet xs ys → IsSameSet (map f xs) (map f ys)
set_of_map f xs ys h y = (
  (λ inside. let r = from_map f xs y inside in subst (Contains (map f ys)) r.2 (contains_map f ys r.0 ((h r.0).0 r.1))),
  λ inside. let r = from_map f ys y inside in subst (Contains (map f xs)) r.2 (contains_map f xs r.0 ((h r.0).1 r.1)),
)

-- what holds of each quad of the list holds of each quad of the index
pub index-All : (P : NumQuad → Type 0) (quads index : List NumQuad) → IsPermutation (without_repeats quad_eq quads) index → All P quads → All P index
index-All P quads index h each k d below =
    All-contains P quads (get_or index k d) each ((set_of_once quad_eq quad_decides quads index h (get_or index k d)).0 (Contains-get_or index k d below))

-- the index, read through the dictionary, is the set of the quads
pub index_reads : (quads : List QuadParts) (dict : List Term) (numbered index : List NumQuad)
    → IsNumbered quads dict numbered → IsPermutation (without_repeats quad_eq numbered) index
    → IsSameSet (quads_at dict index) quads × AreBelow (length dict) index
index_reads quads dict numbered index h once = (
  subst (λ l. IsSameSet (quads_at dict index) l) h.2 (set_of_map (quad_at dict) index numbered (set_of_once quad_eq quad_decides numbered index once)),
  index-All (IsBelow (length dict)) numbered index once h.1,
)

-- ---- a map that is injective on a list keeps its elements once

module _ {X Y : Type 0} (same : X → X → Bool) (decides : (x y : X) → Decides (same x y) (x ≡ y)) (same' : Y → Y → Bool) (decides' : (x y : Y) → Decides (same' x y) (x ≡ y))
    (f : X → Y) (P : X → Type 0) (apart : (x y : X) → P x → P y → f x ≡ f y → x ≡ y) where
  distinct-map : (xs : List X) → All P xs → IsWithoutRepeats same xs → IsWithoutRepeats same' (map f xs)
  distinct-map [] each h = tt
  distinct-map (x ∷ xs) each h = (by (list_any (same' (f x)) (map f xs)) refl, distinct-map xs (All-tail P x xs each) h.1)
    where
      by : (b : Bool) → list_any (same' (f x)) (map f xs) ≡ b → list_any (same' (f x)) (map f xs) ≡ false
      by false e = e
      by true e =
          let r = from_map f xs (f x) (contained same' decides' (map f xs) (f x) e) in
          let is : r.0 ≡ x = apart r.0 x (All-contains P xs r.0 (All-tail P x xs each) r.1) (All-head P x xs each) r.2 in
          let there : list_any (same x) xs ≡ true = list_any-from_Contains (decided same decides) x xs (subst (Contains xs) is r.1) in
          absurd (true≢false (sym there ∙ h.0))

  once-All : (xs : List X) → All P xs → All P (without_repeats same xs)
  once-All xs each k d below =
      All-contains P xs (get_or (without_repeats same xs) k d) each
      (once_contains same decides xs (get_or (without_repeats same xs) k d) (Contains-get_or (without_repeats same xs) k d below))

  pub once-map : (xs : List X) → All P xs → IsPermutation (without_repeats same' (map f xs)) (map f (without_repeats same xs))
  once-map xs each =
      subst (λ l. IsPermutation (without_repeats same' (map f xs)) l)
      (once_already same' decides' (map f (without_repeats same xs)) (distinct-map (without_repeats same xs) (once-All xs each) (IsWithoutRepeats-without_repeats same xs)))
      (without_repeats-alike same' decides' (map f xs) (map f (without_repeats same xs))
      (alike_from_set (map f xs) (map f (without_repeats same xs))
      (set_of_map f xs (without_repeats same xs) (λ x. (contains_once same decides xs x, once_contains same decides xs x)))))

-- ---- distinct numbers of a dictionary have distinct terms

appearances_once : (ts : List Term) → first_appearances ts ≡ without_repeats term_eq ts
appearances_once [] = refl
appearances_once (t ∷ ts) = ap (λ l. t ∷ filter (differs_from t) l) (appearances_once ts)

dict_distinct : (dict ts : List Term) → dict ≡ first_appearances ts → IsWithoutRepeats term_eq dict
dict_distinct dict ts e = subst (IsWithoutRepeats term_eq) (sym (e ∙ appearances_once ts)) (IsWithoutRepeats-without_repeats term_eq ts)

not_first : (t : Term) (ts : List Term) (n : ℕ) → list_any (term_eq t) ts ≡ false → n < length ts → t ≡ term_at ts n → ⊥
not_first t ts n h below e =
    let there : Contains ts t = subst (Contains ts) (sym e) (Contains-get_or ts n (Blank []) below) in
    true≢false (sym (list_any-from_Contains (decided term_eq term_decides) t ts there) ∙ h)

pub number_apart : (dict : List Term) → IsWithoutRepeats term_eq dict → (m n : ℕ) → m < length dict → n < length dict → term_at dict m ≡ term_at dict n → m ≡ n
number_apart [] h m n below below' e = absurd (omega arith)
number_apart (t ∷ ts) h zero zero below below' e = refl
number_apart (t ∷ ts) h zero (suc n) below below' e = absurd (not_first t ts n h.0 (omega arith) e)
number_apart (t ∷ ts) h (suc m) zero below below' e = absurd (not_first t ts m h.0 (omega arith) (sym e))
number_apart (t ∷ ts) h (suc m) (suc n) below below' e = ap suc (number_apart ts h.1 m n (omega arith) (omega arith) e)

graph_apart : (dict : List Term) → IsWithoutRepeats term_eq dict → (x y : Option ℕ) → ForSome x (λ n. n < length dict) → ForSome y (λ n. n < length dict)
    → option_map (term_at dict) x ≡ option_map (term_at dict) y → x ≡ y
graph_apart dict h None None below below' e = refl
graph_apart dict h None (Some n) below below' e = cc
graph_apart dict h (Some m) None below below' e = cc
graph_apart dict h (Some m) (Some n) below below' e =
    let is : term_at dict m ≡ term_at dict n = cc in
    ap Some (number_apart dict h m n (below m refl) (below' n refl) is)

quad_apart : (dict : List Term) → IsWithoutRepeats term_eq dict → (a b : NumQuad) → IsBelow (length dict) a → IsBelow (length dict) b → quad_at dict a ≡ quad_at dict b → a ≡ b
quad_apart dict h a b below below' e = λ i. record {
  g = graph_apart dict h a.g b.g below.3 below'.3 (ap (λ q. q.g) e) i;
  s = number_apart dict h a.s b.s below.0 below'.0 (ap (λ q. q.s) e) i;
  p = number_apart dict h a.p b.p below.1 below'.1 (ap (λ q. q.p) e) i;
  o = number_apart dict h a.o b.o below.2 below'.2 (ap (λ q. q.o) e) i;
}

-- ---- the test of quads of terms

left_true : (a b : Bool) → (a && b) ≡ true → a ≡ true
left_true true b h = refl
left_true false b h = h

right_true : (a b : Bool) → (a && b) ≡ true → b ≡ true
right_true true b h = h
right_true false b h = absurd (true≢false (sym h))

name_same : (x y : Option Term) → option_eq term_eq x y ≡ true → x ≡ y
name_same None None h = refl
name_same None (Some t) h = absurd (true≢false (sym h))
name_same (Some t) None h = absurd (true≢false (sym h))
name_same (Some t) (Some u) h = ap Some ((term_decides t u).0 h)

name_itself : (x : Option Term) → option_eq term_eq x x ≡ true
name_itself None = refl
name_itself (Some t) = (term_decides t t).1 refl

parts_itself : (a : QuadParts) → same_parts a a ≡ true
parts_itself a = λ i. name_itself a.g i && ((term_decides a.s a.s).1 refl i && ((term_decides a.p a.p).1 refl i && (term_decides a.o a.o).1 refl i))

pub parts_decides : (a b : QuadParts) → Decides (same_parts a b) (a ≡ b)
parts_decides a b = (same, λ e. subst (λ z. same_parts a z ≡ true) e (parts_itself a))
  where
    same : same_parts a b ≡ true → a ≡ b
    same h =
        let r = right_true (option_eq term_eq a.g b.g) (term_eq a.s b.s && (term_eq a.p b.p && term_eq a.o b.o)) h in
        let u = right_true (term_eq a.s b.s) (term_eq a.p b.p && term_eq a.o b.o) r in
        let at_s = left_true (term_eq a.s b.s) (term_eq a.p b.p && term_eq a.o b.o) r in
        let at_p = left_true (term_eq a.p b.p) (term_eq a.o b.o) u in
        let at_o = right_true (term_eq a.p b.p) (term_eq a.o b.o) u in
        let at_g = left_true (option_eq term_eq a.g b.g) (term_eq a.s b.s && (term_eq a.p b.p && term_eq a.o b.o)) h in
        λ i. record {
          s = (term_decides a.s b.s).0 at_s i;
          p = (term_decides a.p b.p).0 at_p i;
          o = (term_decides a.o b.o).0 at_o i;
          g = name_same a.g b.g at_g i;
        }

-- ---- the laws

pub index_counts : (quads : List QuadParts) (dict : List Term) (numbered index : List NumQuad)
    → IsNumbered quads dict numbered → IsPermutation (without_repeats quad_eq numbered) index
    → IsPermutation (without_repeats same_parts quads) (quads_at dict index)
index_counts quads dict numbered index h once =
    let distinct = dict_distinct dict (terms_of quads) h.0 in
    let mapped : IsPermutation (without_repeats same_parts (quads_at dict numbered)) (map (quad_at dict) (without_repeats quad_eq numbered)) =
    once-map quad_eq quad_decides same_parts parts_decides (quad_at dict) (IsBelow (length dict)) (quad_apart dict distinct) numbered h.1 in
    IsPermutation-trans (without_repeats same_parts quads) (map (quad_at dict) (without_repeats quad_eq numbered)) (quads_at dict index)
    (subst (λ l. IsPermutation (without_repeats same_parts l) (map (quad_at dict) (without_repeats quad_eq numbered))) h.2 mapped)
    (IsPermutation-map (quad_at dict) (without_repeats quad_eq numbered) index once)

names_mapped : (dict : List Term) (quads : List NumQuad) → filter_map (λ q. q.g) (quads_at dict quads) ≡ map (term_at dict) (graph_names quads)
names_mapped dict [] = refl
names_mapped dict (q ∷ quads) = by q.g (names_mapped dict quads)
  where
    by : (x : Option ℕ) → filter_map (λ q. q.g) (quads_at dict quads) ≡ map (term_at dict) (graph_names quads)
        → cons_option (option_map (term_at dict) x) (filter_map (λ q. q.g) (quads_at dict quads)) ≡ map (term_at dict) (cons_option x (graph_names quads))
    by None e = e
    by (Some n) e = ap (λ l. term_at dict n ∷ l) e

names_below : (n : ℕ) (quads : List NumQuad) → AreBelow n quads → All (λ g. g < n) (graph_names quads)
names_below n [] h = λ k d below. absurd (omega arith)
names_below n (q ∷ quads) h = by q.g (All-head (IsBelow n) q quads h).3 (names_below n quads (All-tail (IsBelow n) q quads h))
  where
    by : (x : Option ℕ) → ForSome x (λ g. g < n) → All (λ g. g < n) (graph_names quads) → All (λ g. g < n) (cons_option x (graph_names quads))
    by None here rest = rest
    by (Some g) here rest = All-cons (λ g. g < n) g (graph_names quads) (here g refl) rest

pub index_names : (quads : List QuadParts) (dict : List Term) (numbered index : List NumQuad) (graphs : List ℕ)
    → IsNumbered quads dict numbered → IsPermutation (without_repeats quad_eq numbered) index
    → IsPermutation (without_repeats nat_eq (graph_names index)) graphs
    → IsPermutation (names (quads_at dict index)) (map (term_at dict) graphs)
index_names quads dict numbered index graphs h once named =
    let distinct = dict_distinct dict (terms_of quads) h.0 in
    let below : AreBelow (length dict) index = index-All (IsBelow (length dict)) numbered index once h.1 in
    let mapped : IsPermutation (without_repeats term_eq (map (term_at dict) (graph_names index))) (map (term_at dict) (without_repeats nat_eq (graph_names index))) =
    once-map nat_eq Decides-eqb term_eq term_decides (term_at dict) (λ n. n < length dict) (number_apart dict distinct) (graph_names index) (names_below (length dict) index below) in
    IsPermutation-trans (names (quads_at dict index)) (map (term_at dict) (without_repeats nat_eq (graph_names index))) (map (term_at dict) graphs)
    (subst (λ l. IsPermutation (without_repeats term_eq l) (map (term_at dict) (without_repeats nat_eq (graph_names index)))) (sym (names_mapped dict index)) mapped)
    (IsPermutation-map (term_at dict) (without_repeats nat_eq (graph_names index)) graphs named)

-- two lists that each have the quads once are one list in two orders: what `Index::of_lists` requires
pub same_once : {X : Type 0} (once left right : List X) → IsPermutation once left → IsPermutation once right → IsPermutation left right
same_once once left right a b = IsPermutation-trans left once right (IsPermutation-sym once left a) b
