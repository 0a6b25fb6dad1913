-- The solutions over a dataset are those over its parts.
use Rattle.std.proofs.Common.{◌≡◌, ℕ, zero, suc, ◌+◌, Bool, true, false, cond, ◌&&◌, ◌||◌, List, [], ◌∷◌, ◌++◌, take, map, filter, flat_map, Option, None, Some, Decides, IsPermutation, refl, sym, ap, ◌∙◌, subst, ⊎_elim, append-nil, if◌then◌else◌}
use Rattle.std.specs.List.{list_any}
use Rattle.std.specs.Option.{option_eq}
use Rattle.std.specs.Cmp.{both_ways}
use Rattle.std.proofs.lemmas.Bool.{cases_Bool, false≢true, and_parts, or_cases}
use Rattle.std.proofs.lemmas.List.{map-append}
use Rattle.std.proofs.lemmas.List.Concat.{flat_map-append}
use Rattle.std.proofs.lemmas.List.Elements.{filter-append}
use Rattle.std.proofs.lemmas.List.Folds.{list_any-append}
use Rattle.std.proofs.lemmas.List.Sorted.{IsPermutation-refl, IsPermutation-append, IsPermutation-map, IsPermutation-trans}
use Rattle.rdf_core.specs.declared.term.Term.{Term}
use Rattle.rdf_core.specs.QuadParts.{QuadParts}
use Rattle.rdf_core.proofs.TermLaws.{term_eq, term_decides}
use Rattle.algebra_model.specs.Algebra.{Algebra, GraphName, Pattern, Join, LeftJoin, Union, Minus, Graph, Filter, Extend, Project, Distinct, Table, each_graph, one_graph, is_triple_below, is_within}
use Rattle.algebra_model.specs.Bag.{IsSameBag, IsSameSet, IsWithoutRepeats}
use Rattle.algebra_model.specs.Bgp.{PatternTerm, Triple, TriplePattern, variable, label, constant, bgp, every_map, image, is_in, takes_to, terms}
use Rattle.algebra_model.specs.Dataset.{graph, names, triple_of}
use Rattle.algebra_model.specs.Eval.{eval, in_graphs, named}
use Rattle.algebra_model.specs.Expression.{holds, val}
use Rattle.algebra_model.specs.Operators.{bind, distinct, extend, join, left_join, minus, project}
use Rattle.algebra_model.specs.Pieces.{joined}
use Rattle.algebra_model.specs.Renaming.{Each}
use Rattle.algebra_model.specs.Solution.{Solution, same_solution}
use Rattle.algebra_model.proofs.BagLaws.{IsPermutation-flat_map, IsPermutation-flat_map_each, permutation_from_counts, same_bag}
use Rattle.algebra_model.proofs.BgpLaws.{solution_decides}
use Rattle.algebra_model.proofs.CongruenceLaws as bags
use Rattle.algebra_model.proofs.EvalLaws.{eval-IsSameSet}
use Rattle.algebra_model.proofs.RepeatLaws.{IsWithoutRepeats-filter, IsWithoutRepeats-without_repeats}
use Rattle.algebra_model.proofs.SetLaws.{AreAlike, alike_from_set, bgp-alike}
use Rattle.algebra_model.proofs.SolveLaws.{count_by_one}
use Rattle.algebra_model.proofs.WithinLaws.{are_below}
use Rattle.query_split.specs.declared.split.Split.{Split}
use Rattle.query_split.specs.declared.split.Split.TheVariants as by
use Rattle.query_split.specs.Condition.{Key, has_default, has_keys, has_no_graph, is_apart, is_apart_graph, is_apart_pattern, is_key_name, is_key_variable, is_same}
use Rattle.query_split.specs.Parts.{AreApart, AreParts}
use Rattle.query_split.specs.Laws.{PartsHaveAll}
use Rattle.query_split.proofs.OperatorSplits as operators
use Rattle.query_split.proofs.OperatorSplits.{AreAlien}
use Rattle.query_split.proofs.PatternSplits.{bgp-split, once-append, taken, NoneMeet}
use Rattle.query_split.proofs.KeyedLaws.{HasKey, IsKeyOf, are_alien, are_alien_too, is_named, keyed, members, not_both_names}

abbrev Rows : Type 0
Rows = List (Solution Term)

-- ---- graphs of two datasets

pub graph-append : (D E : List QuadParts) (g : Option Term) → graph (D ++ E) g ≡ graph D g ++ graph E g
graph-append D E g =
    let mine = λ (q : QuadParts). option_eq term_eq q.g g in
    ap (map triple_of) (filter-append mine D E) ∙ map-append triple_of (filter mine D) (filter mine E)

-- the graph of a name that a dataset does not have is empty
unnamed : (D : List QuadParts) (i : Term) → list_any (term_eq i) (names D) ≡ false → graph D (Some i) ≡ []
unnamed D i e = ap (map triple_of) (none D (sym (is_named i D) ∙ e))
  where
    turned : (g : Option Term) → option_eq term_eq (Some i) g ≡ false → option_eq term_eq g (Some i) ≡ false
    turned None f = refl
    turned (Some t) f =
        ⊎_elim
        (λ (e : term_eq t i ≡ true). absurd (false≢true (sym f ∙ (term_decides i t).1 (sym ((term_decides t i).0 e)))))
        (λ (e : term_eq t i ≡ false). e)
        (cases_Bool (term_eq t i))

    either : (a b : Bool) → (a || b) ≡ false → (a ≡ false) × (b ≡ false)
    either true b f = absurd (false≢true (sym f))
    either false b f = (refl, f)

    none : (D : List QuadParts) → list_any (λ q. option_eq term_eq (Some i) q.g) D ≡ false → filter (λ q. option_eq term_eq q.g (Some i)) D ≡ []
    none [] f = refl
    none (q ∷ D) f =
        let p = either (option_eq term_eq (Some i) q.g) (list_any (λ q. option_eq term_eq (Some i) q.g) D) f in
        ap (λ b. cond b (q ∷ filter (λ q. option_eq term_eq q.g (Some i)) D) (filter (λ q. option_eq term_eq q.g (Some i)) D)) (turned q.g p.0) ∙ none D p.1

named-append : (D E : List QuadParts) (i : Term) → list_any (term_eq i) (names (D ++ E)) ≡ (list_any (term_eq i) (names D) || list_any (term_eq i) (names E))
named-append D E i =
    is_named i (D ++ E) ∙ list_any-append (λ q. option_eq term_eq (Some i) q.g) D E ∙ (λ j. sym (is_named i D) j || sym (is_named i E) j)

names_once : (D : List QuadParts) → IsWithoutRepeats term_eq (names D)
names_once D = IsWithoutRepeats-without_repeats term_eq (Rattle.std.proofs.Common.filter_map (λ (q : QuadParts). q.g) D)

-- lists without repeats that have the same elements
same_set : (xs ys : List Term) → IsWithoutRepeats term_eq xs → IsWithoutRepeats term_eq ys → ((x : Term) → list_any (term_eq x) xs ≡ list_any (term_eq x) ys) → IsPermutation xs ys
same_set xs ys a b h = permutation_from_counts term_eq term_decides xs ys
    (λ z. once z xs a ∙ ap (λ (b : Bool). cond {A = ℕ} b 1 0) (h z) ∙ sym (once z ys b))
  where
    once : (z : Term) (l : List Term) → IsWithoutRepeats term_eq l → Rattle.std.proofs.Common.count_by (term_eq z) l ≡ cond (list_any (term_eq z) l) 1 0
    once z l c = count_by_one term_eq (term_eq z) (λ x y p q. (term_decides x y).1 (sym ((term_decides z x).0 p) ∙ (term_decides z y).0 q)) l c

-- ---- expressions that do not depend on the part

empty_map : (n : ℕ) (ts us : List Term) → every_map (λ _. false) ts n ≡ every_map (λ _. false) us n
empty_map zero ts us = refl
empty_map (suc n) ts us = ap (λ r. flat_map (λ x. map (λ μ. x ∷ μ) r) (None ∷ [])) (empty_map n ts us)

empty_pattern : (w l : ℕ) (G H : List (Triple Term)) → bgp term_eq w l [] G ≡ bgp term_eq w l [] H
empty_pattern w l G H = ap (λ r. map (take w) (filter (λ _. true) r)) (empty_map (w + l) (terms term_eq G) (terms term_eq H))

module _ (split : Split) (w : ℕ) (D E : List QuadParts) (g : Option Term) (alike : has_default split ≡ true → AreAlike (graph D g) (graph E g)) where
  pub same_eval : (A : Algebra) → is_same split A ≡ true → IsSameBag (eval w D g A) (eval w E g A)
  same_eval (Pattern labels []) a = same_bag (eval w D g (Pattern labels [])) (eval w E g (Pattern labels [])) (empty_pattern w labels (graph D g) (graph E g))
  same_eval (Pattern labels (t ∷ P)) a = bgp-alike term_eq term_decides w labels (t ∷ P) (graph D g) (graph E g) (alike a)
  same_eval (Join A B) a = bags.join-IsSameBag term_eq term_decides (eval w D g A) (eval w E g A) (eval w D g B) (eval w E g B) (same_eval A (and_parts _ _ a).0) (same_eval B (and_parts _ _ a).1)
  same_eval (LeftJoin A B e) a = bags.left_join-IsSameBag term_eq term_decides (holds e) (eval w D g A) (eval w E g A) (eval w D g B) (eval w E g B) (same_eval A (and_parts _ _ a).0) (same_eval B (and_parts _ _ a).1)
  same_eval (Union A B) a = bags.union-IsSameBag term_eq term_decides (eval w D g A) (eval w E g A) (eval w D g B) (eval w E g B) (same_eval A (and_parts _ _ a).0) (same_eval B (and_parts _ _ a).1)
  same_eval (Minus A B) a = bags.minus-IsSameBag term_eq term_decides (eval w D g A) (eval w E g A) (eval w D g B) (eval w E g B) (same_eval A (and_parts _ _ a).0) (same_eval B (and_parts _ _ a).1)
  same_eval (Graph i A) a = absurd (false≢true a)
  same_eval (Filter e A) a = bags.filter-IsSameBag term_eq term_decides (holds e) (eval w D g A) (eval w E g A) (same_eval A a)
  same_eval (Extend v e A) a = bags.extend-IsSameBag v (val e) (eval w D g A) (eval w E g A) (same_eval A a)
  same_eval (Project vs A) a = bags.project-IsSameBag vs (eval w D g A) (eval w E g A) (same_eval A a)
  same_eval (Distinct A) a = bags.distinct-IsSameBag term_eq term_decides (eval w D g A) (eval w E g A) (same_eval A a)
  same_eval (Table vs rows) a = IsPermutation-refl (eval w D g (Table vs rows))

-- without GRAPH, only the active graph matters
module _ (w : ℕ) (D E : List QuadParts) (g : Option Term) (same : graph D g ≡ graph E g) where
  free_eval : (A : Algebra) → has_no_graph A ≡ true → eval w D g A ≡ eval w E g A
  free_eval (Pattern labels P) a = ap (bgp term_eq w labels P) same
  free_eval (Join A B) a = let p = and_parts _ _ a in λ i. join term_eq (free_eval A p.0 i) (free_eval B p.1 i)
  free_eval (LeftJoin A B e) a = let p = and_parts _ _ a in λ i. left_join term_eq (holds e) (free_eval A p.0 i) (free_eval B p.1 i)
  free_eval (Union A B) a = let p = and_parts _ _ a in λ i. free_eval A p.0 i ++ free_eval B p.1 i
  free_eval (Minus A B) a = let p = and_parts _ _ a in λ i. minus term_eq (free_eval A p.0 i) (free_eval B p.1 i)
  free_eval (Graph i A) a = absurd (false≢true a)
  free_eval (Filter e A) a = ap (filter (holds e)) (free_eval A a)
  free_eval (Extend v e A) a = ap (extend v (val e)) (free_eval A a)
  free_eval (Project vs A) a = ap (project vs) (free_eval A a)
  free_eval (Distinct A) a = ap (distinct term_eq) (free_eval A a)
  free_eval (Table vs rows) a = refl

-- an expression whose solutions come from one part each has none in an empty graph
module _ (split : Split) (w : ℕ) (key : Key) (D : List QuadParts) (g : Option Term) (empty : graph D g ≡ []) where
  no_maps : (t : TriplePattern Term) (P : List (TriplePattern Term)) (ms : Rows) → filter (is_in term_eq w (t ∷ P) []) ms ≡ []
  no_maps t P [] = refl
  no_maps t P (m ∷ ms) = no_maps t P ms

  no_pattern : (s : Split) (labels : ℕ) (P : List (TriplePattern Term)) → is_apart_pattern s key P ≡ true → bgp term_eq w labels P (graph D g) ≡ []
  no_pattern s labels (t ∷ P) a =
      ap (bgp term_eq w labels (t ∷ P)) empty ∙ ap (map (take w)) (no_maps t P (every_map (Rattle.algebra_model.specs.Bgp.occurs w (t ∷ P)) (terms term_eq []) (w + labels)))
  no_pattern by.Lines labels [] a = absurd (false≢true a)
  no_pattern by.Subject labels [] a = absurd (false≢true a)
  no_pattern by.Graph labels [] a = absurd (false≢true a)
  no_pattern by.GraphWithDefault labels [] a = absurd (false≢true a)

  empty_eval : (A : Algebra) → has_no_graph A ≡ true → is_apart split key A ≡ true → eval w D g A ≡ []
  empty_eval (Pattern labels P) n a = no_pattern split labels P a
  empty_eval (Join A B) n a =
      let p = and_parts (has_no_graph A) (has_no_graph B) n in
      let first = λ (x : is_apart split key A ≡ true). empty_eval A p.0 x in
      let second = λ (x : is_apart split key B ≡ true). empty_eval B p.1 x in
      ⊎_elim
      (λ x. ap (λ l. join term_eq l (eval w D g B)) (first (and_parts _ _ x).0))
      (λ x. ap (λ l. join term_eq (eval w D g A) l) (second (and_parts _ _ x).1) ∙ operators.join-nothing term_eq term_decides (eval w D g A))
      (or_cases (is_apart split key A && (is_same split B || has_keys split && is_apart split key B)) (is_same split A && is_apart split key B) a)
  empty_eval (LeftJoin A B e) n a = ap (λ l. left_join term_eq (holds e) l (eval w D g B)) (empty_eval A (and_parts _ _ n).0 (and_parts _ _ a).0)
  empty_eval (Union A B) n a = λ i. empty_eval A (and_parts _ _ n).0 (and_parts _ _ a).0 i ++ empty_eval B (and_parts _ _ n).1 (and_parts _ _ a).1 i
  empty_eval (Minus A B) n a = ap (λ l. minus term_eq l (eval w D g B)) (empty_eval A (and_parts _ _ n).0 (and_parts _ _ a).0)
  empty_eval (Graph i A) n a = absurd (false≢true n)
  empty_eval (Filter e A) n a = ap (filter (holds e)) (empty_eval A n a)
  empty_eval (Extend v e A) n a = ap (extend v (val e)) (empty_eval A n a)
  empty_eval (Project vs A) n a = absurd (false≢true a)
  empty_eval (Distinct A) n a = absurd (false≢true a)
  empty_eval (Table vs rows) n a = absurd (false≢true a)

-- ---- triples of two parts

module _ (Meets : QuadParts → QuadParts → Type 0) (M : Triple Term → Triple Term → Type 0) (g : Option Term)
    (meet : (q r : QuadParts) → q.g ≡ g → r.g ≡ g → M (triple_of q) (triple_of r) → Meets q r) where
  named_so : (q : QuadParts) → option_eq term_eq q.g g ≡ true → q.g ≡ g
  named_so q e = (Rattle.algebra_model.proofs.TestLaws.option_decides term_eq term_decides q.g g).0 e

  rest_apart : (q : QuadParts) → q.g ≡ g → (E : List QuadParts) → Each (λ r. Meets q r → ⊥) E → Each (λ y. M (triple_of q) y → ⊥) (graph E g)
  rest_apart q e [] h = tt
  rest_apart q e (r ∷ E) h = one (option_eq term_eq r.g g) refl (rest_apart q e E h.1)
    where
      one : (b : Bool) → option_eq term_eq r.g g ≡ b → Each (λ y. M (triple_of q) y → ⊥) (graph E g)
          → Each (λ y. M (triple_of q) y → ⊥) (map triple_of (cond b (r ∷ filter (λ q. option_eq term_eq q.g g) E) (filter (λ q. option_eq term_eq q.g g) E)))
      one true f more = (λ m. h.0 (meet q r e (named_so r f) m), more)
      one false f more = more

  graphs_apart : (D E : List QuadParts) → Each (λ q. Each (λ r. Meets q r → ⊥) E) D → NoneMeet M (graph D g) (graph E g)
  graphs_apart [] E h = tt
  graphs_apart (q ∷ D) E h = one (option_eq term_eq q.g g) refl (graphs_apart D E h.1)
    where
      one : (b : Bool) → option_eq term_eq q.g g ≡ b → NoneMeet M (graph D g) (graph E g)
          → NoneMeet M (map triple_of (cond b (q ∷ filter (λ q. option_eq term_eq q.g g) D) (filter (λ q. option_eq term_eq q.g g) D))) (graph E g)
      one true f more = (rest_apart q (named_so q f) E h.0, more)
      one false f more = more

-- ---- patterns of two parts

module _ (w : ℕ) (key : Key) (D E : List QuadParts) (g : Option Term) (labels : ℕ) where
  some_is : {T : Type 0} (x y : T) → Some x ≡ Some y → x ≡ y
  some_is {T} x y e = ap get e
    where
      get : Option T → T
      get None = x
      get (Some z) = z

  lines_meet : (t : TriplePattern Term) (M : Solution Term) (u v : TriplePattern Term) (x y : Triple Term) → u ≡ t → v ≡ t → takes_to term_eq w M u x ≡ true → takes_to term_eq w M v y ≡ true → x ≡ y
  lines_meet t M u v x y a b e f =
      let p = taken w M t x (ap (λ z. takes_to term_eq w M z x) (sym a) ∙ e) in
      let q = taken w M t y (ap (λ z. takes_to term_eq w M z y) (sym b) ∙ f) in
      λ i. record { s = some_is x.s y.s (sym p.0 ∙ q.0) i; p = some_is x.p y.p (sym p.1 ∙ q.1) i; o = some_is x.o y.o (sym p.2 ∙ q.2) i }

  key_image : (M : Solution Term) (n m : PatternTerm Term) → is_key_variable key n ≡ true → is_key_variable key m ≡ true → image w M n ≡ image w M m
  key_image M n m = one key n m
    where
      one : (k n m : PatternTerm Term) → is_key_variable k n ≡ true → is_key_variable k m ≡ true → image w M n ≡ image w M m
      one (variable k) (variable v) (variable u) a b = ap (λ z. Rattle.std.proofs.Common.get_or M z None) (sym (Rattle.std.proofs.lemmas.Bool.eqb-true k v a) ∙ Rattle.std.proofs.lemmas.Bool.eqb-true k u b)
      one (variable k) (variable v) (label l) a b = absurd (false≢true b)
      one (variable k) (variable v) (constant c) a b = absurd (false≢true b)
      one (variable k) (label l) m a b = absurd (false≢true a)
      one (variable k) (constant c) m a b = absurd (false≢true a)
      one (label l) n m a b = absurd (false≢true a)
      one (constant c) n m a b = absurd (false≢true a)

  subjects_meet : (M : Solution Term) (u v : TriplePattern Term) (x y : Triple Term) → is_key_variable key u.s ≡ true → is_key_variable key v.s ≡ true → takes_to term_eq w M u x ≡ true → takes_to term_eq w M v y ≡ true → x.s ≡ y.s
  subjects_meet M u v x y a b e f =
      some_is x.s y.s (sym (taken w M u x e).0 ∙ key_image M u.s v.s a b ∙ (taken w M v y f).0)

  each_is_key : (P : List (TriplePattern Term)) → Rattle.std.specs.List.list_all (λ u. is_key_variable key u.s) P ≡ true → Each (λ u. is_key_variable key u.s ≡ true) P
  each_is_key [] a = tt
  each_is_key (u ∷ P) a = ((and_parts _ _ a).0, each_is_key P (and_parts _ _ a).1)

  pattern_split : (s : Split) → AreApart s D E → (P : List (TriplePattern Term)) → Rattle.std.specs.List.list_all (is_triple_below w labels) P ≡ true → is_apart_pattern s key P ≡ true
      → IsSameBag (bgp term_eq w labels P (graph D g ++ graph E g)) (bgp term_eq w labels P (graph D g) ++ bgp term_eq w labels P (graph E g))
  pattern_split by.Lines apart [] b a = absurd (false≢true a)
  pattern_split by.Lines apart (t ∷ []) b a =
      bgp-split w (λ u. u ≡ t) (λ x y. x ≡ y) (λ x y e. e) (lines_meet t) labels t [] (are_below w labels (t ∷ []) b) (refl, tt) (graph D g) (graph E g)
      (graphs_apart (λ q r. q ≡ r) (λ x y. x ≡ y) g (λ q r e f m i. record { s = (m i).s; p = (m i).p; o = (m i).o; g = (e ∙ sym f) i }) D E apart)
  pattern_split by.Lines apart (t ∷ u ∷ P) b a = absurd (false≢true a)
  pattern_split by.Subject apart [] b a = absurd (false≢true a)
  pattern_split by.Subject apart (t ∷ P) b a =
      bgp-split w (λ u. is_key_variable key u.s ≡ true) (λ x y. x.s ≡ y.s) (λ x y e. ap (λ (z : Triple Term). z.s) e) subjects_meet labels t P (are_below w labels (t ∷ P) b)
      ((and_parts _ _ a).0, each_is_key P (and_parts _ _ a).1) (graph D g) (graph E g)
      (graphs_apart (λ q r. q.s ≡ r.s) (λ x y. x.s ≡ y.s) g (λ q r e f m. m) D E apart)
  pattern_split by.Graph apart P b a = absurd (false≢true a)
  pattern_split by.GraphWithDefault apart P b a = absurd (false≢true a)

-- ---- operators on two sides

module _ (F : Rows → Rows → Rows)
    (cong : (A A' B B' : Rows) → IsSameBag A A' → IsSameBag B B' → IsSameBag (F A B) (F A' B'))
    (left : (A A' B : Rows) → IsSameBag (F (A ++ A') B) (F A B ++ F A' B))
    (both : (A A' B B' : Rows) → AreAlien term_eq A B' → AreAlien term_eq A' B → IsSameBag (F (A ++ A') (B ++ B')) (F A B ++ F A' B')) where
  -- the right side is the same for both parts
  right_same : (A A₁ A₂ B B₁ B₂ : Rows) → IsSameBag A (A₁ ++ A₂) → IsSameBag B B₁ → IsSameBag B B₂ → IsSameBag (F A B) (F A₁ B₁ ++ F A₂ B₂)
  right_same A A₁ A₂ B B₁ B₂ a b c =
      IsPermutation-trans (F A B) (F (A₁ ++ A₂) B) (F A₁ B₁ ++ F A₂ B₂) (cong A (A₁ ++ A₂) B B a (IsPermutation-refl B))
      (IsPermutation-trans (F (A₁ ++ A₂) B) (F A₁ B ++ F A₂ B) (F A₁ B₁ ++ F A₂ B₂) (left A₁ A₂ B)
      (IsPermutation-append (F A₁ B) (F A₁ B₁) (F A₂ B) (F A₂ B₂) (cong A₁ A₁ B B₁ (IsPermutation-refl A₁) b) (cong A₂ A₂ B B₂ (IsPermutation-refl A₂) c)))

  -- both sides are split
  both_split : (A A₁ A₂ B B₁ B₂ : Rows) → IsSameBag A (A₁ ++ A₂) → IsSameBag B (B₁ ++ B₂) → AreAlien term_eq A₁ B₂ → AreAlien term_eq A₂ B₁ → IsSameBag (F A B) (F A₁ B₁ ++ F A₂ B₂)
  both_split A A₁ A₂ B B₁ B₂ a b h k =
      IsPermutation-trans (F A B) (F (A₁ ++ A₂) (B₁ ++ B₂)) (F A₁ B₁ ++ F A₂ B₂) (cong A (A₁ ++ A₂) B (B₁ ++ B₂) a b) (both A₁ A₂ B₁ B₂ h k)

join-cong : (A A' B B' : Rows) → IsSameBag A A' → IsSameBag B B' → IsSameBag (join term_eq A B) (join term_eq A' B')
join-cong = bags.join-IsSameBag term_eq term_decides

join-left : (A A' B : Rows) → IsSameBag (join term_eq (A ++ A') B) (join term_eq A B ++ join term_eq A' B)
join-left A A' B = same_bag (join term_eq (A ++ A') B) (join term_eq A B ++ join term_eq A' B) (operators.join-of_left term_eq term_decides A A' B)

join-both : (A A' B B' : Rows) → AreAlien term_eq A B' → AreAlien term_eq A' B → IsSameBag (join term_eq (A ++ A') (B ++ B')) (join term_eq A B ++ join term_eq A' B')
join-both A A' B B' h k = same_bag (join term_eq (A ++ A') (B ++ B')) (join term_eq A B ++ join term_eq A' B') (operators.join-split term_eq term_decides A A' B B' h k)

-- the left side is the same for both parts
join-left_same : (A A₁ A₂ B B₁ B₂ : Rows) → IsSameBag A A₁ → IsSameBag A A₂ → IsSameBag B (B₁ ++ B₂) → IsSameBag (join term_eq A B) (join term_eq A₁ B₁ ++ join term_eq A₂ B₂)
join-left_same A A₁ A₂ B B₁ B₂ a c b =
    let J = join term_eq in
    IsPermutation-trans (J A B) (J A (B₁ ++ B₂)) (J A₁ B₁ ++ J A₂ B₂) (join-cong A A B (B₁ ++ B₂) (IsPermutation-refl A) b)
    (IsPermutation-trans (J A (B₁ ++ B₂)) (J A B₁ ++ J A B₂) (J A₁ B₁ ++ J A₂ B₂) (operators.join-of_right term_eq term_decides B₁ B₂ A)
    (IsPermutation-append (J A B₁) (J A₁ B₁) (J A B₂) (J A₂ B₂) (join-cong A A₁ B₁ B₁ a (IsPermutation-refl B₁)) (join-cong A A₂ B₂ B₂ c (IsPermutation-refl B₂))))

-- ---- GRAPH over two datasets

-- what gives nothing for an element may leave the element out
only_passing : (F : Term → Rows) (p : Term → Bool) → ((x : Term) → p x ≡ false → F x ≡ []) → (xs : List Term) → flat_map F xs ≡ flat_map F (filter p xs)
only_passing F p h [] = refl
only_passing F p h (x ∷ xs) = one (p x) refl (only_passing F p h xs)
  where
    one : (b : Bool) → p x ≡ b → flat_map F xs ≡ flat_map F (filter p xs) → F x ++ flat_map F xs ≡ flat_map F (cond b (x ∷ filter p xs) (filter p xs))
    one true e ih = ap (λ l. F x ++ l) ih
    one false e ih = ap (λ l. l ++ flat_map F xs) (h x e) ∙ ih

and_false : (a : Bool) → (a && false) ≡ false
and_false true = refl
and_false false = refl

any_filter : (q : Term → Bool) (x : Term) (xs : List Term) → list_any (term_eq x) (filter q xs) ≡ (q x && list_any (term_eq x) xs)
any_filter q x [] = sym (and_false (q x))
any_filter q x (y ∷ ys) = one (term_eq x y) refl (q y) refl (any_filter q x ys)
  where
    one : (a : Bool) → term_eq x y ≡ a → (b : Bool) → q y ≡ b → list_any (term_eq x) (filter q ys) ≡ (q x && list_any (term_eq x) ys)
        → list_any (term_eq x) (cond b (y ∷ filter q ys) (filter q ys)) ≡ (q x && (a || list_any (term_eq x) ys))
    one true e true f ih = ap (λ c. c || list_any (term_eq x) (filter q ys)) e ∙ sym (ap (λ c. c && true) (ap q ((term_decides x y).0 e) ∙ f))
    one true e false f ih = ih ∙ ap (λ c. c && list_any (term_eq x) ys) (ap q ((term_decides x y).0 e) ∙ f) ∙ sym (ap (λ c. c && true) (ap q ((term_decides x y).0 e) ∙ f))
    one false e true f ih = ap (λ c. c || list_any (term_eq x) (filter q ys)) e ∙ ih
    one false e false f ih = ih

module _ (w : ℕ) (D : List QuadParts) where
  -- GRAPH with a name, if a graph that does not exist gives nothing
  in_one : (i : Term) (P : Option Term → Rows) → (list_any (term_eq i) (names D) ≡ false → P (Some i) ≡ []) → in_graphs w D (one_graph i) P ≡ P (Some i)
  in_one i P h = one (list_any (term_eq i) (names D)) refl
    where
      one : (b : Bool) → list_any (term_eq i) (names D) ≡ b → (if b then P (Some i) else []) ≡ P (Some i)
      one true e = refl
      one false e = sym (h e)

  -- more names, if a graph that does not exist gives nothing
  more_names : (F : Term → Rows) → ((x : Term) → list_any (term_eq x) (names D) ≡ false → F x ≡ []) → (ns : List Term) → IsWithoutRepeats term_eq ns
      → ((x : Term) → (list_any (term_eq x) (names D) && list_any (term_eq x) ns) ≡ list_any (term_eq x) (names D)) → IsSameBag (flat_map F ns) (flat_map F (names D))
  more_names F h ns once more =
      let p = λ (x : Term). list_any (term_eq x) (names D) in
      subst (λ l. IsPermutation l (flat_map F (names D))) (sym (only_passing F p h ns))
      (IsPermutation-flat_map (same_solution term_eq) (solution_decides term_eq term_decides) F (filter p ns) (names D)
      (same_set (filter p ns) (names D) (IsWithoutRepeats-filter term_eq p ns once) (names_once D) (λ x. any_filter p x ns ∙ more x)))

-- GRAPH around what comes from one part each
module _ (w : ℕ) (D E : List QuadParts) (P Q R : Option Term → Rows)
    (split : (h : Option Term) → IsSameBag (P h) (Q h ++ R h))
    (none : (i : Term) → list_any (term_eq i) (names (D ++ E)) ≡ false → P (Some i) ≡ [])
    (none_left : (i : Term) → list_any (term_eq i) (names D) ≡ false → Q (Some i) ≡ [])
    (none_right : (i : Term) → list_any (term_eq i) (names E) ≡ false → R (Some i) ≡ []) where
  absorbs : (a b : Bool) → (a && (a || b)) ≡ a
  absorbs true b = refl
  absorbs false b = refl

  absorbs_right : (a b : Bool) → (b && (a || b)) ≡ b
  absorbs_right true true = refl
  absorbs_right true false = refl
  absorbs_right false true = refl
  absorbs_right false false = refl

  inside-split : (i : GraphName) → IsSameBag (in_graphs w (D ++ E) i P) (in_graphs w D i Q ++ in_graphs w E i R)
  inside-split (one_graph i) =
      subst (λ l. IsPermutation l (in_graphs w D (one_graph i) Q ++ in_graphs w E (one_graph i) R)) (sym (in_one w (D ++ E) i P (none i)))
      (subst (λ l. IsPermutation (P (Some i)) l) (λ j. sym (in_one w D i Q (none_left i)) j ++ sym (in_one w E i R (none_right i)) j) (split (Some i)))
  inside-split (each_graph v) =
      let N = names (D ++ E) in
      let at = λ (S : Option Term → Rows) (i : Term). join term_eq (S (Some i)) (named w v i) in
      let nothing = λ (S : Option Term → Rows) (i : Term) (e : S (Some i) ≡ []). ap (λ l. join term_eq l (named w v i)) e in
      let each = IsPermutation-flat_map_each (at P) (λ i. at Q i ++ at R i)
      (λ i. IsPermutation-trans (at P i) (join term_eq (Q (Some i) ++ R (Some i)) (named w v i)) (at Q i ++ at R i)
      (join-cong (P (Some i)) (Q (Some i) ++ R (Some i)) (named w v i) (named w v i) (split (Some i)) (IsPermutation-refl (named w v i)))
      (join-left (Q (Some i)) (R (Some i)) (named w v i))) N in
      let two = operators.flat_map-two term_eq term_decides (at Q) (at R) N in
      let first = more_names w D (at Q) (λ x e. nothing Q x (none_left x e)) N (names_once (D ++ E))
      (λ x. ap (λ b. list_any (term_eq x) (names D) && b) (named-append D E x) ∙ absorbs (list_any (term_eq x) (names D)) (list_any (term_eq x) (names E))) in
      let second = more_names w E (at R) (λ x e. nothing R x (none_right x e)) N (names_once (D ++ E))
      (λ x. ap (λ b. list_any (term_eq x) (names E) && b) (named-append D E x) ∙ absorbs_right (list_any (term_eq x) (names D)) (list_any (term_eq x) (names E))) in
      IsPermutation-trans (flat_map (at P) N) (flat_map (λ i. at Q i ++ at R i) N) (flat_map (at Q) (names D) ++ flat_map (at R) (names E)) each
      (IsPermutation-trans (flat_map (λ i. at Q i ++ at R i) N) (flat_map (at Q) N ++ flat_map (at R) N) (flat_map (at Q) (names D) ++ flat_map (at R) (names E)) two
      (IsPermutation-append (flat_map (at Q) N) (flat_map (at Q) (names D)) (flat_map (at R) N) (flat_map (at R) (names E)) first second))

-- GRAPH with the key as name: each graph is in one part
module _ (w : ℕ) (D E : List QuadParts) (apart : AreApart by.Graph D E) (P Q R : Option Term → Rows)
    (left : (i : Term) → list_any (term_eq i) (names E) ≡ false → P (Some i) ≡ Q (Some i))
    (right : (i : Term) → list_any (term_eq i) (names D) ≡ false → P (Some i) ≡ R (Some i)) where
  only_left : (i : Term) → list_any (term_eq i) (names D) ≡ true → list_any (term_eq i) (names E) ≡ false
  only_left i e =
      ⊎_elim
      (λ (f : list_any (term_eq i) (names E) ≡ true). absurd (not_both_names D E i apart e f))
      (λ (f : list_any (term_eq i) (names E) ≡ false). f)
      (cases_Bool (list_any (term_eq i) (names E)))

  only_right : (i : Term) → list_any (term_eq i) (names E) ≡ true → list_any (term_eq i) (names D) ≡ false
  only_right i e =
      ⊎_elim
      (λ (f : list_any (term_eq i) (names D) ≡ true). absurd (not_both_names D E i apart f e))
      (λ (f : list_any (term_eq i) (names D) ≡ false). f)
      (cases_Bool (list_any (term_eq i) (names D)))

  names_split : IsPermutation (names (D ++ E)) (names D ++ names E)
  names_split =
      same_set (names (D ++ E)) (names D ++ names E) (names_once (D ++ E))
      (once-append term_eq term_decides (names D) (names E) (names_once D) (names_once E)
      (operators.Each-map (λ x a. operators.Each-map (λ y b e. not_both_names D E x apart a (ap (λ z. list_any (term_eq z) (names E)) e ∙ b)) (names E) (members (names E))) (names D) (members (names D))))
      (λ x. named-append D E x ∙ sym (list_any-append (term_eq x) (names D) (names E)))

  name-split : (i : GraphName) → IsSameBag (in_graphs w (D ++ E) i P) (in_graphs w D i Q ++ in_graphs w E i R)
  name-split (one_graph i) =
      subst (λ b. IsSameBag (if b then P (Some i) else []) (in_graphs w D (one_graph i) Q ++ in_graphs w E (one_graph i) R)) (sym (named-append D E i))
      (one (list_any (term_eq i) (names D)) refl (list_any (term_eq i) (names E)) refl)
    where
      one : (a : Bool) → list_any (term_eq i) (names D) ≡ a → (b : Bool) → list_any (term_eq i) (names E) ≡ b
          → IsSameBag (if (a || b) then P (Some i) else []) ((if a then Q (Some i) else []) ++ (if b then R (Some i) else []))
      one true e true f = absurd (not_both_names D E i apart e f)
      one true e false f = same_bag (P (Some i)) (Q (Some i) ++ []) (left i f ∙ sym (append-nil (Q (Some i))))
      one false e true f = same_bag (P (Some i)) (R (Some i)) (right i e)
      one false e false f = IsPermutation-refl []
  name-split (each_graph v) =
      let at = λ (S : Option Term → Rows) (i : Term). join term_eq (S (Some i)) (named w v i) in
      let here = λ (S T : Option Term → Rows) (i : Term) (e : S (Some i) ≡ T (Some i)). ap (λ l. join term_eq l (named w v i)) e in
      subst (λ l. IsPermutation (flat_map (at P) (names (D ++ E))) l)
      (flat_map-append (at P) (names D) (names E)
      ∙ (λ j. operators.flat_map-same (at P) (at Q) (names D) (operators.Each-map (λ i a. here P Q i (left i (only_left i a))) (names D) (members (names D))) j
      ++ operators.flat_map-same (at P) (at R) (names E) (operators.Each-map (λ i a. here P R i (right i (only_right i a))) (names E) (members (names E))) j))
      (IsPermutation-flat_map (same_solution term_eq) (solution_decides term_eq term_decides) (at P) (names (D ++ E)) (names D ++ names E) names_split)

-- ---- two parts

module _ (split : Split) (w : ℕ) (key : Key) (D E : List QuadParts) (apart : AreApart split D E) where
  -- each part has the graph that is in all parts
  abbrev Shared : Option Term → Type 0
  Shared g = has_default split ≡ true → AreAlike (graph (D ++ E) g) (graph D g) × AreAlike (graph (D ++ E) g) (graph E g)

  abbrev Splits : Option Term → Algebra → Type 0
  Splits g A = IsSameBag (eval w (D ++ E) g A) (eval w D g A ++ eval w E g A)

  same_left : (g : Option Term) → Shared g → (A : Algebra) → is_same split A ≡ true → IsSameBag (eval w (D ++ E) g A) (eval w D g A)
  same_left g shared A = same_eval split w (D ++ E) D g (λ e. (shared e).0) A

  same_right : (g : Option Term) → Shared g → (A : Algebra) → is_same split A ≡ true → IsSameBag (eval w (D ++ E) g A) (eval w E g A)
  same_right g shared A = same_eval split w (D ++ E) E g (λ e. (shared e).1) A

  foreign : (k : has_keys split ≡ true) (g : Option Term) (A B : Algebra) → is_within w A ≡ true → is_within w B ≡ true → is_apart split key A ≡ true → is_apart split key B ≡ true
      → AreAlien term_eq (eval w D g A) (eval w E g B)
  foreign k g A B p q a b = are_alien split k D E apart w key (eval w D g A) (eval w E g B) (keyed split k w key D A g p a) (keyed split k w key E B g q b)

  foreign_too : (k : has_keys split ≡ true) (g : Option Term) (A B : Algebra) → is_within w A ≡ true → is_within w B ≡ true → is_apart split key A ≡ true → is_apart split key B ≡ true
      → AreAlien term_eq (eval w E g A) (eval w D g B)
  foreign_too k g A B p q a b = are_alien_too split k D E apart w key (eval w E g A) (eval w D g B) (keyed split k w key E A g p a) (keyed split k w key D B g q b)

  -- an operator whose left side comes from one part each
  module _ (g : Option Term) (shared : Shared g) (A B : Algebra) (p : is_within w A ≡ true) (q : is_within w B ≡ true)
      (F : Rows → Rows → Rows)
      (cong : (A A' B B' : Rows) → IsSameBag A A' → IsSameBag B B' → IsSameBag (F A B) (F A' B'))
      (left : (A A' B : Rows) → IsSameBag (F (A ++ A') B) (F A B ++ F A' B))
      (both : (A A' B B' : Rows) → AreAlien term_eq A B' → AreAlien term_eq A' B → IsSameBag (F (A ++ A') (B ++ B')) (F A B ++ F A' B')) where
    operator-split : (is_apart split key A && (is_same split B || has_keys split && is_apart split key B)) ≡ true
        → (is_apart split key A ≡ true → Splits g A) → (is_apart split key B ≡ true → Splits g B)
        → IsSameBag (F (eval w (D ++ E) g A) (eval w (D ++ E) g B)) (F (eval w D g A) (eval w D g B) ++ F (eval w E g A) (eval w E g B))
    operator-split c first second =
        let a = and_parts (is_apart split key A) (is_same split B || has_keys split && is_apart split key B) c in
        ⊎_elim
        (λ s. right_same F cong left both (eval w (D ++ E) g A) (eval w D g A) (eval w E g A) (eval w (D ++ E) g B) (eval w D g B) (eval w E g B)
        (first a.0) (same_left g shared B s) (same_right g shared B s))
        (λ s.
        let k = and_parts (has_keys split) (is_apart split key B) s in
        both_split F cong left both (eval w (D ++ E) g A) (eval w D g A) (eval w E g A) (eval w (D ++ E) g B) (eval w D g B) (eval w E g B)
        (first a.0) (second k.1) (foreign k.0 g A B p q a.0 k.1) (foreign_too k.0 g A B p q a.0 k.1))
        (or_cases (is_same split B) (has_keys split && is_apart split key B) a.1)

  -- a graph of both parts is the graph of one, if the other one does not have it
  alone_left : (A : Algebra) → has_no_graph A ≡ true → (i : Term) → list_any (term_eq i) (names E) ≡ false → eval w (D ++ E) (Some i) A ≡ eval w D (Some i) A
  alone_left A n i e =
      free_eval w (D ++ E) D (Some i) (graph-append D E (Some i) ∙ ap (λ l. graph D (Some i) ++ l) (unnamed E i e) ∙ append-nil (graph D (Some i))) A n

  alone_right : (A : Algebra) → has_no_graph A ≡ true → (i : Term) → list_any (term_eq i) (names D) ≡ false → eval w (D ++ E) (Some i) A ≡ eval w E (Some i) A
  alone_right A n i e =
      free_eval w (D ++ E) E (Some i) (graph-append D E (Some i) ∙ ap (λ l. l ++ graph E (Some i)) (unnamed D i e)) A n

  inner-split : (i : GraphName) (A : Algebra) → has_no_graph A ≡ true → is_apart split key A ≡ true → ((h : Option Term) → Splits h A) → Splits None (Graph i A)
  inner-split i A n a ih =
      inside-split w D E (λ h. eval w (D ++ E) h A) (λ h. eval w D h A) (λ h. eval w E h A) ih
      (λ x e. empty_eval split w key (D ++ E) (Some x) (unnamed (D ++ E) x e) A n a)
      (λ x e. empty_eval split w key D (Some x) (unnamed D x e) A n a)
      (λ x e. empty_eval split w key E (Some x) (unnamed E x e) A n a) i

  named-split : AreApart by.Graph D E → (i : GraphName) (A : Algebra) → has_no_graph A ≡ true → Splits None (Graph i A)
  named-split names_apart i A n =
      name-split w D E names_apart (λ h. eval w (D ++ E) h A) (λ h. eval w D h A) (λ h. eval w E h A) (alone_left A n) (alone_right A n) i

  graph-split : (s : Split) → AreApart s D E → (i : GraphName) (A : Algebra) (inner : Bool) → is_apart_graph s key i A inner ≡ true
      → (has_default s ≡ false → has_no_graph A ≡ true → inner ≡ true → Splits None (Graph i A)) → Splits None (Graph i A)
  graph-split by.Lines h i A inner a ih = let p = and_parts (has_no_graph A) inner a in ih refl p.0 p.1
  graph-split by.Subject h i A inner a ih = let p = and_parts (has_no_graph A) inner a in ih refl p.0 p.1
  graph-split by.Graph h i A inner a ih = named-split h i A (and_parts _ _ a).0
  graph-split by.GraphWithDefault h i A inner a ih = named-split h.0 i A (and_parts _ _ a).0

  pub eval-split : (A : Algebra) (g : Option Term) → Shared g → is_within w A ≡ true → is_apart split key A ≡ true → Splits g A
  eval-split (Pattern labels P) g shared b a =
      subst (λ G. IsSameBag (bgp term_eq w labels P G) (bgp term_eq w labels P (graph D g) ++ bgp term_eq w labels P (graph E g))) (sym (graph-append D E g)) (pattern_split w key D E g labels split apart P b a)
  eval-split (Join A B) g shared b a =
      let p = and_parts (is_within w A) (is_within w B) b in
      let first = λ (x : is_apart split key A ≡ true). eval-split A g shared p.0 x in
      let second = λ (x : is_apart split key B ≡ true). eval-split B g shared p.1 x in
      ⊎_elim
      (λ x. operator-split g shared A B p.0 p.1 (join term_eq) join-cong join-left join-both x first second)
      (λ x.
      let c = and_parts (is_same split A) (is_apart split key B) x in
      join-left_same (eval w (D ++ E) g A) (eval w D g A) (eval w E g A) (eval w (D ++ E) g B) (eval w D g B) (eval w E g B)
      (same_left g shared A c.0) (same_right g shared A c.0) (second c.1))
      (or_cases (is_apart split key A && (is_same split B || has_keys split && is_apart split key B)) (is_same split A && is_apart split key B) a)
  eval-split (LeftJoin A B e) g shared b a =
      let p = and_parts (is_within w A) (is_within w B) b in
      operator-split g shared A B p.0 p.1 (left_join term_eq (holds e)) (bags.left_join-IsSameBag term_eq term_decides (holds e))
      (λ X Y Z. operators.left_join-of_left term_eq term_decides X Y Z (holds e)) (λ X Y Z W h k. operators.left_join-split term_eq term_decides X Y Z W h k (holds e))
      a (λ x. eval-split A g shared p.0 x) (λ x. eval-split B g shared p.1 x)
  eval-split (Union A B) g shared b a =
      let p = and_parts (is_within w A) (is_within w B) b in
      let c = and_parts (is_apart split key A) (is_apart split key B) a in
      IsPermutation-trans (eval w (D ++ E) g A ++ eval w (D ++ E) g B) ((eval w D g A ++ eval w E g A) ++ (eval w D g B ++ eval w E g B)) ((eval w D g A ++ eval w D g B) ++ (eval w E g A ++ eval w E g B))
      (IsPermutation-append (eval w (D ++ E) g A) (eval w D g A ++ eval w E g A) (eval w (D ++ E) g B) (eval w D g B ++ eval w E g B) (eval-split A g shared p.0 c.0) (eval-split B g shared p.1 c.1))
      (operators.four term_eq term_decides (eval w D g A) (eval w E g A) (eval w D g B) (eval w E g B))
  eval-split (Minus A B) g shared b a =
      let p = and_parts (is_within w A) (is_within w B) b in
      operator-split g shared A B p.0 p.1 (minus term_eq) (bags.minus-IsSameBag term_eq term_decides)
      (λ X Y Z. same_bag (minus term_eq (X ++ Y) Z) (minus term_eq X Z ++ minus term_eq Y Z) (operators.minus-of_left term_eq term_decides X Y Z))
      (λ X Y Z W h k. same_bag (minus term_eq (X ++ Y) (Z ++ W)) (minus term_eq X Z ++ minus term_eq Y W) (operators.minus-split term_eq term_decides X Y Z W h k))
      a (λ x. eval-split A g shared p.0 x) (λ x. eval-split B g shared p.1 x)
  eval-split (Graph i A) g shared b a =
      let p = and_parts (Rattle.algebra_model.specs.Algebra.is_name_below w i) (is_within w A) b in
      let each = λ (none : has_default split ≡ false) (x : is_apart split key A ≡ true) (h : Option Term). eval-split A h (λ e. absurd (false≢true (sym none ∙ e))) p.1 x in
      graph-split split apart i A (is_apart split key A) a (λ none n x. inner-split i A n x (each none x))
  eval-split (Filter e A) g shared b a =
      subst (λ l. IsSameBag (filter (holds e) (eval w (D ++ E) g A)) l) (filter-append (holds e) (eval w D g A) (eval w E g A))
      (bags.filter-IsSameBag term_eq term_decides (holds e) (eval w (D ++ E) g A) (eval w D g A ++ eval w E g A) (eval-split A g shared b a))
  eval-split (Extend v e A) g shared b a =
      subst (λ l. IsSameBag (extend v (val e) (eval w (D ++ E) g A)) l) (map-append (λ μ. bind v (val e μ) μ) (eval w D g A) (eval w E g A))
      (bags.extend-IsSameBag v (val e) (eval w (D ++ E) g A) (eval w D g A ++ eval w E g A) (eval-split A g shared (and_parts _ _ b).1 a))
  eval-split (Project vs A) g shared b a = absurd (false≢true a)
  eval-split (Distinct A) g shared b a = absurd (false≢true a)
  eval-split (Table vs rows) g shared b a = absurd (false≢true a)

-- ---- any number of parts

-- the default graph of two parts that have the same one
alike_twice : (G H : List (Triple Term)) → AreAlike G H → AreAlike (G ++ H) G × AreAlike (G ++ H) H
alike_twice G H a =
    (λ p. list_any-append p G H ∙ ap (λ b. list_any p G || b) (sym (a p)) ∙ twice (list_any p G), λ p. list_any-append p G H ∙ ap (λ b. b || list_any p H) (a p) ∙ twice (list_any p H))
  where
    twice : (b : Bool) → (b || b) ≡ b
    twice true = refl
    twice false = refl

shared_default : (split : Split) (D E : List QuadParts) → AreApart split D E → has_default split ≡ true → AreAlike (graph (D ++ E) None) (graph D None) × AreAlike (graph (D ++ E) None) (graph E None)
shared_default by.Lines D E apart e = absurd (false≢true e)
shared_default by.Subject D E apart e = absurd (false≢true e)
shared_default by.Graph D E apart e = absurd (false≢true e)
shared_default by.GraphWithDefault D E apart e =
    let t = alike_twice (graph D None) (graph E None) (alike_from_set (graph D None) (graph E None) apart.1) in
    subst (λ G. AreAlike G (graph D None) × AreAlike G (graph E None)) (sym (graph-append D E None)) t

parts-split : (split : Split) (key : Key) (w : ℕ) (A : Algebra) → is_within w A ≡ true → is_apart split key A ≡ true → (part : List QuadParts) (parts : List (List QuadParts)) → AreParts split part parts
    → IsSameBag (eval w (joined (part ∷ parts)) None A) (flat_map (λ p. eval w p None A) (part ∷ parts))
parts-split split key w A b a part [] h =
    same_bag (eval w (part ++ []) None A) (eval w part None A ++ []) (ap (λ D. eval w D None A) (append-nil part) ∙ sym (append-nil (eval w part None A)))
parts-split split key w A b a part (p ∷ parts) h =
    let E = joined (p ∷ parts) in
    let rest = flat_map (λ p. eval w p None A) (p ∷ parts) in
    IsPermutation-trans (eval w (part ++ E) None A) (eval w part None A ++ eval w E None A) (eval w part None A ++ rest)
    (eval-split split w key part E h.0 A None (shared_default split part E h.0) b a)
    (IsPermutation-append (eval w part None A) (eval w part None A) (eval w E None A) rest (IsPermutation-refl (eval w part None A)) (parts-split split key w A b a p parts h.1))

pub parts_have_all : PartsHaveAll
parts_have_all split key w A b a D part parts h same =
    IsPermutation-trans (eval w D None A) (eval w (joined (part ∷ parts)) None A) (flat_map (λ p. eval w p None A) (part ∷ parts))
    (eval-IsSameSet w D (joined (part ∷ parts)) same None A) (parts-split split key w A b a part parts h)
