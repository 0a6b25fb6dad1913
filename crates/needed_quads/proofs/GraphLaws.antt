-- The graphs and the names of a dataset, and solutions that an empty graph or a name that does not fit cannot give.
use Rattle.std.proofs.Common.{◌≡◌, ◌⊎◌, ℕ, zero, suc, ◌+◌, ◌<◌, nat_lt, Bool, true, false, cond, ◌&&◌, ◌||◌, List, [], ◌∷◌, ◌++◌, length, get_or, take, map, filter, filter_map, flat_map, set, replicate, Option, None, Some, Contains, IsPermutation, count_by, refl, sym, ap, ◌∙◌, subst, inl, inr, ⊎_elim, arith}
use Rattle.std.specs.List.{list_any, cons_option}
use Rattle.std.specs.Option.{option_eq}
use Rattle.std.proofs.lemmas.Bool.{false≢true, and_parts, or_cases, or_left, or_right, false_from_ne_true}
use Rattle.std.proofs.lemmas.Bool.Decides.{Decides-ltb}
use Rattle.std.proofs.lemmas.List.{get_or-set_same, length-replicate}
use Rattle.std.proofs.lemmas.List.Elements.{filter-append}
use Rattle.std.proofs.lemmas.List.Folds.{Any-from_list_any, list_any_at}
use Rattle.rdf_core.specs.declared.term.Term.{Term}
use Rattle.rdf_core.specs.QuadParts.{QuadParts}
use Rattle.rdf_core.proofs.TermLaws.{term_eq, term_decides}
use Rattle.algebra_model.specs.Algebra.{Algebra, Pattern, Join, LeftJoin, Union, Minus, Graph, Filter, Extend, Project, Distinct, Table}
use Rattle.algebra_model.specs.Bag.{IsWithoutRepeats}
use Rattle.algebra_model.specs.Bgp.{Triple, TriplePattern, bgp, every_map, is_in, occurs, terms}
use Rattle.algebra_model.specs.Dataset.{graph, names, triple_of}
use Rattle.algebra_model.specs.Eval.{eval, named}
use Rattle.algebra_model.specs.Expression.{holds, val}
use Rattle.algebra_model.specs.Operators.{distinct, extend, join, left_join, merges, minus, project}
use Rattle.algebra_model.specs.Solution.{Solution, is_compatible, merge, same_solution}
use Rattle.algebra_model.proofs.BagLaws.{IsPermutation-flat_map, permutation_from_counts}
use Rattle.algebra_model.proofs.BgpLaws.{solution_decides}
use Rattle.algebra_model.proofs.RepeatLaws.{IsWithoutRepeats-filter, IsWithoutRepeats-without_repeats, any-without_repeats_is}
use Rattle.algebra_model.proofs.SolveLaws.{count_by_one}
use Rattle.algebra_model.proofs.TestLaws.{and_false, option_decides}
use Rattle.needed_quads.specs.Needed.{needs_triples}
use Rattle.needed_quads.specs.Restriction.{Restriction, allows, fits}
use Rattle.needed_quads.proofs.OperatorLaws.{fits-second}
use Rattle.needed_quads.proofs.PatternLaws.{allows-from_fits}

-- solutions with RDF terms
abbrev pub Rows : Type 0
Rows = List (Solution Term)

-- ---- elements of a list

-- an element of a list is one of a longer list
contains_later : {X : Type 0} (x : X) (xs : List X) (y : X) → Contains xs y → Contains (x ∷ xs) y
contains_later x xs y c = (suc c.0, omega (arith, c.1), c.2)

-- an element of a list is the first one or one of the others
contains_cases : {X : Type 0} (x : X) (xs : List X) (y : X) → Contains (x ∷ xs) y → (x ≡ y) ⊎ Contains xs y
contains_cases {X} x xs y c = by c.0 c.1 c.2
  where
    by : (k : ℕ) → k < length (x ∷ xs) → get_or (x ∷ xs) k y ≡ y → (x ≡ y) ⊎ Contains xs y
    by zero below is = inl is
    by (suc k) below is = inr (k, omega (arith, below), is)

-- a list that contains nothing
none_contained : {X : Type 0} (xs : List X) → ((x : X) → Contains xs x → ⊥) → xs ≡ []
none_contained [] h = refl
none_contained (x ∷ xs) h = absurd (h x (0, omega arith, refl))

-- ---- the quads of a graph

-- the triple of a quad in the graph
pub in_graph : (D : List QuadParts) (g : Option Term) (q : QuadParts) → Contains D q → option_eq term_eq q.g g ≡ true → Contains (graph D g) (triple_of q)
in_graph [] g q c e = absurd (omega (arith, c.1))
in_graph (r ∷ D) g q c e = one (option_eq term_eq r.g g) refl (contains_cases r D q c) (λ k. in_graph D g q k e)
  where
    one : (b : Bool) → option_eq term_eq r.g g ≡ b → (r ≡ q) ⊎ Contains D q → (Contains D q → Contains (graph D g) (triple_of q))
        → Contains (map triple_of (cond b (r ∷ filter (λ x. option_eq term_eq x.g g) D) (filter (λ x. option_eq term_eq x.g g) D))) (triple_of q)
    one true h (inl same) more = (0, omega arith, ap triple_of same)
    one true h (inr k) more = contains_later (triple_of r) (graph D g) (triple_of q) (more k)
    one false h (inl same) more = absurd (false≢true (sym h ∙ ap (λ (x : QuadParts). option_eq term_eq x.g g) same ∙ e))
    one false h (inr k) more = more k

-- a quad of a triple in the graph
pub from_graph : (D : List QuadParts) (g : Option Term) (t : Triple Term) → Contains (graph D g) t
    → (q : QuadParts) × Contains D q × (option_eq term_eq q.g g ≡ true) × (triple_of q ≡ t)
from_graph [] g t c = absurd (omega (arith, c.1))
from_graph (r ∷ D) g t c = one (option_eq term_eq r.g g) refl c (from_graph D g t)
  where
    later : (q : QuadParts) × Contains D q × (option_eq term_eq q.g g ≡ true) × (triple_of q ≡ t)
        → (q : QuadParts) × Contains (r ∷ D) q × (option_eq term_eq q.g g ≡ true) × (triple_of q ≡ t)
    later f = (f.0, contains_later r D f.0 f.1, f.2, f.3)

    one : (b : Bool) → option_eq term_eq r.g g ≡ b → Contains (map triple_of (cond b (r ∷ filter (λ x. option_eq term_eq x.g g) D) (filter (λ x. option_eq term_eq x.g g) D))) t
        → (Contains (graph D g) t → (q : QuadParts) × Contains D q × (option_eq term_eq q.g g ≡ true) × (triple_of q ≡ t))
        → (q : QuadParts) × Contains (r ∷ D) q × (option_eq term_eq q.g g ≡ true) × (triple_of q ≡ t)
    one true h k more =
        ⊎_elim
        (λ (e : triple_of r ≡ t). (r, (0, omega arith, refl), h, e))
        (λ (m : Contains (graph D g) t). later (more m))
        (contains_cases (triple_of r) (graph D g) t k)
    one false h k more = later (more k)

-- ---- the names of a dataset

-- a name is that of some quad
any_named : (x : Term) (D : List QuadParts) → list_any (term_eq x) (filter_map (λ q. q.g) D) ≡ list_any (λ q. option_eq term_eq (Some x) q.g) D
any_named x [] = refl
any_named x (q ∷ D) = by q.g (any_named x D)
  where
    by : (g : Option Term) → list_any (term_eq x) (filter_map (λ q. q.g) D) ≡ list_any (λ q. option_eq term_eq (Some x) q.g) D
        → list_any (term_eq x) (cons_option g (filter_map (λ q. q.g) D)) ≡ (option_eq term_eq (Some x) g || list_any (λ q. option_eq term_eq (Some x) q.g) D)
    by None ih = ih
    by (Some t) ih = ap (λ b. term_eq x t || b) ih

-- the same of the names, each once
is_named : (x : Term) (D : List QuadParts) → list_any (term_eq x) (names D) ≡ list_any (λ q. option_eq term_eq (Some x) q.g) D
is_named x D = any-without_repeats_is term_eq term_decides x (filter_map (λ q. q.g) D) ∙ any_named x D

-- the name of the graph of a quad
name_of_quad : (D : List QuadParts) (i : Term) (q : QuadParts) → Contains D q → q.g ≡ Some i → list_any (term_eq i) (names D) ≡ true
name_of_quad D i q c e =
    let p = λ (r : QuadParts). option_eq term_eq (Some i) r.g in
    is_named i D ∙ list_any_at p D c.0 q c.1 (ap p c.2 ∙ (option_decides term_eq term_decides (Some i) q.g).1 (sym e))

-- a quad of the graph of a name
quad_of_name : (D : List QuadParts) (i : Term) → list_any (term_eq i) (names D) ≡ true → (q : QuadParts) × Contains D q × (q.g ≡ Some i)
quad_of_name D i m =
    let r = Any-from_list_any (λ (q : QuadParts). option_eq term_eq (Some i) q.g) D (sym (is_named i D) ∙ m) in
    (r.1, (r.0, r.2, r.3), sym ((option_decides term_eq term_decides (Some i) r.1.g).0 r.4))

-- a name stays if the quads of its graph stay
pub name_kept : (D E : List QuadParts) (i : Term) → ((q : QuadParts) → Contains D q → q.g ≡ Some i → Contains E q)
    → list_any (term_eq i) (names D) ≡ true → list_any (term_eq i) (names E) ≡ true
name_kept D E i keeps m = let r = quad_of_name D i m in name_of_quad E i r.0 (keeps r.0 r.1 r.2) r.2

-- the graph of a name that a dataset does not have is empty
pub unnamed : (D : List QuadParts) (i : Term) → list_any (term_eq i) (names D) ≡ false → graph D (Some i) ≡ []
unnamed D i n =
    none_contained (graph D (Some i)) (λ t c.
    let r = from_graph D (Some i) t c in
    false≢true (sym n ∙ name_of_quad D i r.0 r.1 ((option_decides term_eq term_decides r.0.g (Some i)).0 r.2)))

-- each name is there once
pub names_once : (D : List QuadParts) → IsWithoutRepeats term_eq (names D)
names_once D = IsWithoutRepeats-without_repeats term_eq (filter_map (λ (q : QuadParts). q.g) D)

-- ---- lists of names without repeats

-- lists without repeats that have the same elements
same_set : (xs ys : List Term) → IsWithoutRepeats term_eq xs → IsWithoutRepeats term_eq ys → ((x : Term) → list_any (term_eq x) xs ≡ list_any (term_eq x) ys) → IsPermutation xs ys
same_set xs ys a b h = permutation_from_counts term_eq term_decides xs ys
    (λ z. once z xs a ∙ ap (λ (b : Bool). cond {A = ℕ} b 1 0) (h z) ∙ sym (once z ys b))
  where
    once : (z : Term) (l : List Term) → IsWithoutRepeats term_eq l → count_by (term_eq z) l ≡ cond (list_any (term_eq z) l) 1 0
    once z l c = count_by_one term_eq (term_eq z) (λ x y p q. (term_decides x y).1 (sym ((term_decides z x).0 p) ∙ (term_decides z y).0 q)) l c

-- a name is in the filtered list if it passes and is in the list
any_filter : (q : Term → Bool) (x : Term) (xs : List Term) → list_any (term_eq x) (filter q xs) ≡ (q x && list_any (term_eq x) xs)
any_filter q x [] = sym (and_false (q x))
any_filter q x (y ∷ ys) = one (term_eq x y) refl (q y) refl (any_filter q x ys)
  where
    one : (a : Bool) → term_eq x y ≡ a → (b : Bool) → q y ≡ b → list_any (term_eq x) (filter q ys) ≡ (q x && list_any (term_eq x) ys)
        → list_any (term_eq x) (cond b (y ∷ filter q ys) (filter q ys)) ≡ (q x && (a || list_any (term_eq x) ys))
    one true e true f ih = ap (λ c. c || list_any (term_eq x) (filter q ys)) e ∙ sym (ap (λ c. c && true) (ap q ((term_decides x y).0 e) ∙ f))
    one true e false f ih = ih ∙ ap (λ c. c && list_any (term_eq x) ys) (ap q ((term_decides x y).0 e) ∙ f) ∙ sym (ap (λ c. c && true) (ap q ((term_decides x y).0 e) ∙ f))
    one false e true f ih = ap (λ c. c || list_any (term_eq x) (filter q ys)) e ∙ ih
    one false e false f ih = ih

-- an element for which there is nothing may be left out
only_passing : (F : Term → Rows) (p : Term → Bool) (xs : List Term) → ((x : Term) → list_any (term_eq x) xs ≡ true → p x ≡ false → F x ≡ [])
    → flat_map F xs ≡ flat_map F (filter p xs)
only_passing F p [] h = refl
only_passing F p (x ∷ xs) h = one (p x) refl (only_passing F p xs (λ y m. h y (or_right (term_eq y x) (list_any (term_eq y) xs) m)))
  where
    one : (b : Bool) → p x ≡ b → flat_map F xs ≡ flat_map F (filter p xs) → F x ++ flat_map F xs ≡ flat_map F (cond b (x ∷ filter p xs) (filter p xs))
    one true e ih = ap (λ l. F x ++ l) ih
    one false e ih = ap (λ l. l ++ flat_map F xs) (h x (or_left (term_eq x x) (list_any (term_eq x) xs) ((term_decides x x).1 refl)) e) ∙ ih

-- fewer names, if there is nothing for the others
pub fewer_names : (F : Term → Rows) (xs ys : List Term) → IsWithoutRepeats term_eq xs → IsWithoutRepeats term_eq ys
    → ((x : Term) → list_any (term_eq x) ys ≡ true → list_any (term_eq x) xs ≡ true)
    → ((x : Term) → list_any (term_eq x) xs ≡ true → list_any (term_eq x) ys ≡ false → F x ≡ [])
    → IsPermutation (flat_map F xs) (flat_map F ys)
fewer_names F xs ys a b among none =
    let p = λ (x : Term). list_any (term_eq x) ys in
    subst (λ (l : Rows). IsPermutation l (flat_map F ys)) (sym (only_passing F p xs none))
    (IsPermutation-flat_map (same_solution term_eq) (solution_decides term_eq term_decides) F (filter p xs) ys
    (same_set (filter p xs) ys (IsWithoutRepeats-filter term_eq p xs a) b (λ x. any_filter p x xs ∙ both (p x) (list_any (term_eq x) xs) (among x))))
  where
    both : (a b : Bool) → (a ≡ true → b ≡ true) → (a && b) ≡ a
    both true b h = h refl
    both false b h = refl

-- ---- an empty active graph

-- a join with no solution
join_nothing : (A : Rows) → join term_eq A [] ≡ []
join_nothing [] = refl
join_nothing (μ ∷ A) = join_nothing A

module _ (w : ℕ) (D : List QuadParts) (g : Option Term) (empty : graph D g ≡ []) where
  -- no map takes a triple pattern into an empty graph
  no_maps : (t : TriplePattern Term) (P : List (TriplePattern Term)) (ms : Rows) → filter (is_in term_eq w (t ∷ P) []) ms ≡ []
  no_maps t P [] = refl
  no_maps t P (m ∷ ms) = no_maps t P ms

  -- an expression that needs triples has no solution there
  pub no_solutions : (A : Algebra) → needs_triples A ≡ true → eval w D g A ≡ []
  no_solutions (Pattern labels []) n = absurd (false≢true n)
  no_solutions (Pattern labels (t ∷ P)) n =
      ap (bgp term_eq w labels (t ∷ P)) empty ∙ ap (map (take w)) (no_maps t P (every_map (occurs w (t ∷ P)) (terms term_eq []) (w + labels)))
  no_solutions (Join A B) n =
      let first = λ (x : needs_triples A ≡ true). no_solutions A x in
      let second = λ (x : needs_triples B ≡ true). no_solutions B x in
      ⊎_elim
      (λ (x : needs_triples A ≡ true). ap (λ l. join term_eq l (eval w D g B)) (first x))
      (λ (x : needs_triples B ≡ true). ap (λ l. join term_eq (eval w D g A) l) (second x) ∙ join_nothing (eval w D g A))
      (or_cases (needs_triples A) (needs_triples B) n)
  no_solutions (LeftJoin A B e) n = ap (λ l. left_join term_eq (holds e) l (eval w D g B)) (no_solutions A n)
  no_solutions (Union A B) n = let p = and_parts (needs_triples A) (needs_triples B) n in λ i. no_solutions A p.0 i ++ no_solutions B p.1 i
  no_solutions (Minus A B) n = ap (λ l. minus term_eq l (eval w D g B)) (no_solutions A n)
  no_solutions (Graph i A) n = absurd (false≢true n)
  no_solutions (Filter e A) n = ap (filter (holds e)) (no_solutions A n)
  no_solutions (Extend v e A) n = ap (extend v (val e)) (no_solutions A n)
  no_solutions (Project vs A) n = ap (project vs) (no_solutions A n)
  no_solutions (Distinct A) n = ap (distinct term_eq) (no_solutions A n)
  no_solutions (Table vs rows) n = absurd (false≢true n)

-- ---- a name that does not fit

-- the solution that binds the variable to the term, and nothing else
abbrev pub one_bound : ℕ → ℕ → Term → Solution Term
one_bound w v t = set (replicate w None) v (Some t)

-- it has the term at the variable
pub bound_there : (w v : ℕ) (t : Term) → nat_lt v w ≡ true → get_or (one_bound w v t) v None ≡ Some t
bound_there w v t b =
    let below : v < w = (Decides-ltb v w).0 b in
    get_or-set_same (replicate w None) v (Some t) None (omega (arith, below, length-replicate {A = Option Term} w None))

-- solutions with a name that is not allowed do not fit
pub none_allowed : (R : List Restriction) (w v : ℕ) (i : Term) → nat_lt v w ≡ true → allows R v i ≡ false → (A : Rows) → filter (fits R) (join term_eq A (named w v i)) ≡ []
none_allowed R w v i b n [] = refl
none_allowed R w v i b n (μ ∷ A) =
    filter-append (fits R) (merges term_eq μ (named w v i)) (join term_eq A (named w v i))
    ∙ (λ j. one (is_compatible term_eq μ (one_bound w v i)) refl j ++ none_allowed R w v i b n A j)
  where
    one : (c : Bool) → is_compatible term_eq μ (one_bound w v i) ≡ c → filter (fits R) (map (merge μ) (cond c (one_bound w v i ∷ []) [])) ≡ []
    one true c =
        let m = merge μ (one_bound w v i) in
        ap (λ d. cond d (m ∷ []) [])
        (false_from_ne_true (fits R m) (λ f. false≢true (sym n ∙ allows-from_fits R v i (one_bound w v i) (fits-second R μ (one_bound w v i) c f) (bound_there w v i b))))
    one false c = refl
