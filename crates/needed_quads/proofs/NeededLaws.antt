-- The solutions that fit restrictions need only the quads that `is_needed` names, so a dataset may leave out the others.
use Rattle.std.proofs.Common.{◌≡◌, ℕ, nat_lt, Bool, true, false, not, ◌&&◌, ◌||◌, List, [], ◌∷◌, ◌++◌, get_or, filter, flat_map, Option, None, Some, is_some, Contains, IsPermutation, if◌then◌else◌, option_map, refl, sym, ap, ◌∙◌, subst, ⊎_elim, append-nil}
use Rattle.std.specs.List.{list_any, list_all}
use Rattle.std.specs.Option.{option_eq}
use Rattle.std.proofs.lemmas.Bool.{cases_Bool, false≢true, and_parts, and_from, or_left, or_right, true_from_ne_false}
use Rattle.std.proofs.lemmas.List.Sorted.{IsPermutation-refl, IsPermutation-trans}
use Rattle.rdf_core.specs.declared.term.Term.{Term}
use Rattle.rdf_core.specs.QuadParts.{QuadParts}
use Rattle.rdf_core.proofs.TermLaws.{term_eq, term_decides}
use Rattle.algebra_model.specs.Algebra.{Algebra, GraphName, Pattern, Join, LeftJoin, Union, Minus, Graph, Filter, Extend, Project, Distinct, Table, each_graph, one_graph, is_within}
use Rattle.algebra_model.specs.Bag.{IsSameBag}
use Rattle.algebra_model.specs.Bgp.{Triple, TriplePattern}
use Rattle.algebra_model.specs.Dataset.{graph, names}
use Rattle.algebra_model.specs.Eval.{eval, named}
use Rattle.algebra_model.specs.Expression.{Expression, holds, val}
use Rattle.algebra_model.specs.Operators.{distinct, join, project, table}
use Rattle.algebra_model.proofs.BagLaws.{IsPermutation-flat_map_each, same_bag}
use Rattle.algebra_model.proofs.CongruenceLaws as bags
use Rattle.algebra_model.proofs.TestLaws.{option_decides}
use Rattle.needed_quads.specs.Laws.{NeededSuffice}
use Rattle.needed_quads.specs.Needed.{is_needed, may_match, may_name, needs_triples}
use Rattle.needed_quads.specs.Restriction.{Restriction, allows, fits, only_cells, restricted, restrictions}
use Rattle.needed_quads.proofs.GraphLaws.{Rows, bound_there, fewer_names, from_graph, in_graph, name_kept, names_once, no_solutions, none_allowed, one_bound, unnamed}
use Rattle.needed_quads.proofs.OperatorLaws.{AreAlikeFor, AreHeld, filter-flat_map, fits-nil, held-join, holds_of, is_bound_among, restrict-extend, restrict-filter, restrict-join, restrict-left_join, restrict-minus, restrict-union}
use Rattle.needed_quads.proofs.PatternLaws.{pattern-needed, triple_may_match}

-- ---- terms that VALUES lists

-- without restrictions there is nothing to show
held-nil : (A : Rows) → AreHeld [] A
held-nil [] = refl
held-nil (μ ∷ A) = held-nil A

module _ (w v : ℕ) (below : nat_lt v w ≡ true) (terms : List Term) where
  -- the solution that binds the variable to one of the terms
  one_held : (t : Term) → list_any (term_eq t) terms ≡ true → holds_of (restricted v (Some terms)) (one_bound w v t) ≡ true
  one_held t m =
      and_from (is_bound_among (get_or (one_bound w v t) v None) terms) true
      (ap (λ (o : Option Term). is_bound_among o terms) (bound_there w v t below) ∙ m) refl

  -- the terms of some rows are among all terms
  abbrev AreAmong : List Term → Type 0
  AreAmong ts = (t : Term) → list_any (term_eq t) ts ≡ true → list_any (term_eq t) terms ≡ true

  -- each row has one of the terms
  cells-held : (rows : List (List (Option Term))) (ts : List Term) → only_cells rows ≡ Some ts → AreAmong ts → AreHeld (restricted v (Some terms)) (table w (v ∷ []) rows)
  cells-held [] ts e h = refl
  cells-held ((Some t ∷ []) ∷ rows) ts e h = by (only_cells rows) refl e (cells-held rows)
    where
      by : (o : Option (List Term)) → only_cells rows ≡ o → option_map (λ us. t ∷ us) o ≡ Some ts
          → ((us : List Term) → only_cells rows ≡ Some us → AreAmong us → AreHeld (restricted v (Some terms)) (table w (v ∷ []) rows))
          → AreHeld (restricted v (Some terms)) (one_bound w v t ∷ table w (v ∷ []) rows)
      by None o n more = absurd (false≢true (ap is_some n))
      by (Some us) o n more =
          let same : (t ∷ us) ≡ ts = cc in
          let all : AreAmong (t ∷ us) = subst AreAmong (sym same) h in
          and_from (holds_of (restricted v (Some terms)) (one_bound w v t)) (list_all (holds_of (restricted v (Some terms))) (table w (v ∷ []) rows))
          (one_held t (all t (or_left (term_eq t t) (list_any (term_eq t) us) ((term_decides t t).1 refl))))
          (more us o (λ u m. all u (or_right (term_eq u t) (list_any (term_eq u) us) m)))
  cells-held ([] ∷ rows) ts e h = absurd (false≢true (ap is_some e))
  cells-held ((None ∷ cells) ∷ rows) ts e h = absurd (false≢true (ap is_some e))
  cells-held ((Some t ∷ x ∷ cells) ∷ rows) ts e h = absurd (false≢true (ap is_some e))

-- a table of one variable
table-held : (w v : ℕ) (rows : List (List (Option Term))) → nat_lt v w ≡ true → AreHeld (restricted v (only_cells rows)) (table w (v ∷ []) rows)
table-held w v rows below = by (only_cells rows) refl
  where
    by : (o : Option (List Term)) → only_cells rows ≡ o → AreHeld (restricted v o) (table w (v ∷ []) rows)
    by None e = held-nil (table w (v ∷ []) rows)
    by (Some ts) e = cells-held w v below ts rows ts e (λ t m. m)

-- each solution has the terms of the restrictions
pub restrictions-held : (w : ℕ) (D : List QuadParts) (g : Option Term) (A : Algebra) → is_within w A ≡ true → AreHeld (restrictions A) (eval w D g A)
restrictions-held w D g (Join A B) b =
    let p = and_parts (is_within w A) (is_within w B) b in
    held-join (restrictions A) (restrictions B) (eval w D g A) (eval w D g B) (restrictions-held w D g A p.0) (restrictions-held w D g B p.1)
restrictions-held w D g (Table (v ∷ []) rows) b = table-held w v rows (and_parts (nat_lt v w) true b).0
restrictions-held w D g A b = held-nil (eval w D g A)

-- ---- the induction

module _ (w : ℕ) (D E : List QuadParts) (within : (q : QuadParts) → Contains E q → Contains D q) where
  -- A needs the quad for solutions that fit R, where g is the name of the active graph
  abbrev pub needs : Option Term → List Restriction → Algebra → QuadParts → Bool
  needs g R A q = is_needed q (option_eq term_eq q.g g) R A

  -- E has all quads of D that A needs
  abbrev pub IsEnough : Option Term → List Restriction → Algebra → Type 0
  IsEnough g R A = (q : QuadParts) → Contains D q → needs g R A q ≡ true → Contains E q

  -- If E has them, then the solutions that fit are the same.
  abbrev pub Suffices : Algebra → Type 0
  Suffices A = (g : Option Term) (R : List Restriction) → is_within w A ≡ true → IsEnough g R A → AreAlikeFor R (eval w D g A) (eval w E g A)

  -- a basic graph pattern
  pattern-suffices : (labels : ℕ) (P : List (TriplePattern Term)) → Suffices (Pattern labels P)
  pattern-suffices labels P g R b enough =
      pattern-needed w labels R P (graph D g) (graph E g) b
      (λ t c. let r = from_graph E g t c in subst (Contains (graph D g)) r.3 (in_graph D g r.0 (within r.0 r.1) r.2))
      (λ t c m.
      let r = from_graph D g t c in
      let matched : list_any (may_match R r.0) P ≡ true = ap (λ (u : Triple Term). list_any (triple_may_match R u) P) r.3 ∙ m in
      subst (Contains (graph E g)) r.3 (in_graph E g r.0 (enough r.0 r.1 (and_from (option_eq term_eq r.0.g g) (list_any (may_match R r.0) P) r.2 matched)) r.2))

  -- ---- operators with two sides

  module _ (A B : Algebra) (first : Suffices A) (second : Suffices B) where
    -- Join: each side needs what fits the restrictions of both
    join-suffices : Suffices (Join A B)
    join-suffices g R b enough =
        let p = and_parts (is_within w A) (is_within w B) b in
        let S = R ++ (restrictions A ++ restrictions B) in
        restrict-join R (restrictions A) (restrictions B) (eval w D g A) (eval w E g A) (eval w D g B) (eval w E g B)
        (restrictions-held w D g A p.0) (restrictions-held w E g A p.0) (restrictions-held w D g B p.1) (restrictions-held w E g B p.1)
        (first g S p.0 (λ q c n. enough q c (or_left (needs g S A q) (needs g S B q) n)))
        (second g S p.1 (λ q c n. enough q c (or_right (needs g S A q) (needs g S B q) n)))

    -- LeftJoin: the right side needs what fits the restrictions of the left one
    left_join-suffices : (e : Expression) → Suffices (LeftJoin A B e)
    left_join-suffices e g R b enough =
        let p = and_parts (is_within w A) (is_within w B) b in
        let X = restrictions A in
        restrict-left_join R X (holds e) (eval w D g A) (eval w E g A) (eval w D g B) (eval w E g B)
        (restrictions-held w D g A p.0) (restrictions-held w E g A p.0)
        (first g R p.0 (λ q c n. enough q c (or_left (needs g R A q) (needs g X B q) n)))
        (second g X p.1 (λ q c n. enough q c (or_right (needs g R A q) (needs g X B q) n)))

    -- Minus, as LeftJoin
    minus-suffices : Suffices (Minus A B)
    minus-suffices g R b enough =
        let p = and_parts (is_within w A) (is_within w B) b in
        let X = restrictions A in
        restrict-minus R X (eval w D g A) (eval w E g A) (eval w D g B) (eval w E g B)
        (restrictions-held w D g A p.0) (restrictions-held w E g A p.0)
        (first g R p.0 (λ q c n. enough q c (or_left (needs g R A q) (needs g X B q) n)))
        (second g X p.1 (λ q c n. enough q c (or_right (needs g R A q) (needs g X B q) n)))

    -- Union
    union-suffices : Suffices (Union A B)
    union-suffices g R b enough =
        let p = and_parts (is_within w A) (is_within w B) b in
        restrict-union R (eval w D g A) (eval w E g A) (eval w D g B) (eval w E g B)
        (first g R p.0 (λ q c n. enough q c (or_left (needs g R A q) (needs g R B q) n)))
        (second g R p.1 (λ q c n. enough q c (or_right (needs g R A q) (needs g R B q) n)))

  -- ---- operators with one side

  module _ (A : Algebra) (inner : Suffices A) where
    -- Filter
    filter-suffices : (e : Expression) → Suffices (Filter e A)
    filter-suffices e g R b enough = restrict-filter R (holds e) (eval w D g A) (eval w E g A) (inner g R b enough)

    -- Extend
    extend-suffices : (v : ℕ) (e : Expression) → Suffices (Extend v e A)
    extend-suffices v e g R b enough =
        restrict-extend R v (val e) (eval w D g A) (eval w E g A) (inner g R (and_parts (nat_lt v w) (is_within w A) b).1 enough)

    -- without restrictions all solutions are the same
    whole : (g : Option Term) → is_within w A ≡ true → IsEnough g [] A → IsSameBag (eval w D g A) (eval w E g A)
    whole g b enough = fits-nil (eval w D g A) (eval w E g A) (inner g [] b enough)

    -- Project
    project-suffices : (vs : List ℕ) → Suffices (Project vs A)
    project-suffices vs g R b enough =
        let same = whole g (and_parts (list_all (λ v. nat_lt v w) vs) (is_within w A) b).1 enough in
        bags.filter-IsSameBag term_eq term_decides (fits R) (project vs (eval w D g A)) (project vs (eval w E g A))
        (bags.project-IsSameBag vs (eval w D g A) (eval w E g A) same)

    -- Distinct
    distinct-suffices : Suffices (Distinct A)
    distinct-suffices g R b enough =
        bags.filter-IsSameBag term_eq term_decides (fits R) (distinct term_eq (eval w D g A)) (distinct term_eq (eval w E g A))
        (bags.distinct-IsSameBag term_eq term_decides (eval w D g A) (eval w E g A) (whole g b enough))

  -- ---- GRAPH

  module _ (i : GraphName) (A : Algebra) (g : Option Term) (R : List Restriction) (enough : IsEnough g R (Graph i A)) where
    -- a quad of a graph whose name matters
    needed_there : (x : Term) → may_name R i (Some x) ≡ true → (q : QuadParts) → Contains D q → q.g ≡ Some x
        → (is_needed q true R A || not (needs_triples A)) ≡ true → Contains E q
    needed_there x name q c there n =
        enough q c
        (or_left (may_name R i q.g && (is_needed q true R A || not (needs_triples A))) (is_needed q false R A)
        (and_from (may_name R i q.g) (is_needed q true R A || not (needs_triples A)) (ap (may_name R i) there ∙ name) n))

    -- what the inner expression needs
    inner-enough : (x : Term) → may_name R i (Some x) ≡ true → IsEnough (Some x) R A
    inner-enough x name q c n = by (option_eq term_eq q.g (Some x)) refl n
      where
        by : (b : Bool) → option_eq term_eq q.g (Some x) ≡ b → is_needed q b R A ≡ true → Contains E q
        by true there m =
            needed_there x name q c ((option_decides term_eq term_decides q.g (Some x)).0 there)
            (or_left (is_needed q true R A) (not (needs_triples A)) m)
        by false there m =
            enough q c (or_right (may_name R i q.g && (is_needed q true R A || not (needs_triples A))) (is_needed q false R A) m)

    -- a graph that E does not have gives no solution
    nothing_outside : (x : Term) → may_name R i (Some x) ≡ true → list_any (term_eq x) (names D) ≡ true → list_any (term_eq x) (names E) ≡ false → eval w E (Some x) A ≡ []
    nothing_outside x name m n = no_solutions w E (Some x) (unnamed E x n) A (true_from_ne_false (needs_triples A) kept)
      where
        kept : needs_triples A ≡ false → ⊥
        kept f =
            false≢true (sym n ∙ name_kept D E x
            (λ q c there. needed_there x name q c there (or_right (is_needed q true R A) (not (needs_triples A)) (ap not f))) m)

  -- GRAPH with an IRI
  one_graph-suffices : (x : Term) (A : Algebra) → Suffices A → Suffices (Graph (one_graph x) A)
  one_graph-suffices x A inner g R b enough = by (list_any (term_eq x) (names D)) refl (list_any (term_eq x) (names E)) refl
    where
      name : term_eq x x ≡ true
      name = (term_decides x x).1 refl

      same : AreAlikeFor R (eval w D (Some x) A) (eval w E (Some x) A)
      same = inner (Some x) R b (inner-enough (one_graph x) A g R enough x name)

      by : (d : Bool) → list_any (term_eq x) (names D) ≡ d → (e : Bool) → list_any (term_eq x) (names E) ≡ e
          → AreAlikeFor R (if d then eval w D (Some x) A else []) (if e then eval w E (Some x) A else [])
      by true m true n = same
      by true m false n = subst (λ (l : Rows). AreAlikeFor R (eval w D (Some x) A) l) (nothing_outside (one_graph x) A g R enough x name m n) same
      by false m true n = absurd (false≢true (sym m ∙ name_kept E D x (λ q c there. within q c) n))
      by false m false n = IsPermutation-refl []

  -- GRAPH with a variable
  module _ (v : ℕ) (A : Algebra) (inner : Suffices A) (g : Option Term) (R : List Restriction) (b : is_within w (Graph (each_graph v) A) ≡ true) (enough : IsEnough g R (Graph (each_graph v) A)) where
    -- the solutions of one graph
    abbrev of_graph : List QuadParts → Term → Rows
    of_graph F x = join term_eq (eval w F (Some x) A) (named w v x)

    -- those that fit
    abbrev fitting : List QuadParts → Term → Rows
    fitting F x = filter (fits R) (of_graph F x)

    -- the variable is one of the query
    below : nat_lt v w ≡ true
    below = (and_parts (nat_lt v w) (is_within w A) b).0

    -- the solutions of a graph whose name is allowed
    join_named : (x : Term) → allows R v x ≡ true → IsPermutation (fitting D x) (fitting E x)
    join_named x name =
        let same = inner (Some x) R (and_parts (nat_lt v w) (is_within w A) b).1 (inner-enough (each_graph v) A g R enough x name) in
        restrict-join R [] [] (eval w D (Some x) A) (eval w E (Some x) A) (named w v x) (named w v x)
        (held-nil (eval w D (Some x) A)) (held-nil (eval w E (Some x) A)) (held-nil (named w v x)) (held-nil (named w v x))
        (subst (λ (S : List Restriction). AreAlikeFor S (eval w D (Some x) A) (eval w E (Some x) A)) (sym (append-nil R)) same)
        (IsPermutation-refl (filter (fits (R ++ [])) (named w v x)))

    -- the solutions of each graph
    each_same : (x : Term) → IsPermutation (fitting D x) (fitting E x)
    each_same x =
        ⊎_elim
        (λ (name : allows R v x ≡ true). join_named x name)
        (λ (other : allows R v x ≡ false). same_bag (fitting D x) (fitting E x) (none_allowed R w v x below other (eval w D (Some x) A) ∙ sym (none_allowed R w v x below other (eval w E (Some x) A))))
        (cases_Bool (allows R v x))

    -- a graph that E does not have
    each_outside : (x : Term) → list_any (term_eq x) (names D) ≡ true → list_any (term_eq x) (names E) ≡ false → fitting E x ≡ []
    each_outside x m n =
        ⊎_elim
        (λ (name : allows R v x ≡ true). ap (λ (l : Rows). filter (fits R) (join term_eq l (named w v x))) (nothing_outside (each_graph v) A g R enough x name m n))
        (λ (other : allows R v x ≡ false). none_allowed R w v x below other (eval w E (Some x) A))
        (cases_Bool (allows R v x))

    -- the solutions of all graphs
    each_graph-alike : AreAlikeFor R (flat_map (of_graph D) (names D)) (flat_map (of_graph E) (names E))
    each_graph-alike =
        let fewer = fewer_names (fitting E) (names D) (names E) (names_once D) (names_once E) (λ x. name_kept E D x (λ q c there. within q c)) each_outside in
        let all = IsPermutation-trans (flat_map (fitting D) (names D)) (flat_map (fitting E) (names D)) (flat_map (fitting E) (names E))
        (IsPermutation-flat_map_each (fitting D) (fitting E) each_same (names D)) fewer in
        subst (λ (l : Rows). IsPermutation l (filter (fits R) (flat_map (of_graph E) (names E)))) (sym (filter-flat_map (fits R) (of_graph D) (names D)))
        (subst (λ (l : Rows). IsPermutation (flat_map (fitting D) (names D)) l) (sym (filter-flat_map (fits R) (of_graph E) (names E))) all)

  -- GRAPH
  graph-suffices : (i : GraphName) (A : Algebra) → Suffices A → Suffices (Graph i A)
  graph-suffices (one_graph x) A inner g R b enough = one_graph-suffices x A inner g R b enough
  graph-suffices (each_graph v) A inner g R b enough = each_graph-alike v A inner g R b enough

  -- ---- every expression

  -- the solutions that fit need only these quads, by induction over the algebra
  pub eval-needed : (A : Algebra) → Suffices A
  eval-needed (Pattern labels P) = pattern-suffices labels P
  eval-needed (Join A B) = join-suffices A B (eval-needed A) (eval-needed B)
  eval-needed (LeftJoin A B e) = left_join-suffices A B (eval-needed A) (eval-needed B) e
  eval-needed (Union A B) = union-suffices A B (eval-needed A) (eval-needed B)
  eval-needed (Minus A B) = minus-suffices A B (eval-needed A) (eval-needed B)
  eval-needed (Graph i A) = graph-suffices i A (eval-needed A)
  eval-needed (Filter e A) = filter-suffices A (eval-needed A) e
  eval-needed (Extend v e A) = extend-suffices A (eval-needed A) v e
  eval-needed (Project vs A) = project-suffices A (eval-needed A) vs
  eval-needed (Distinct A) = distinct-suffices A (eval-needed A)
  eval-needed (Table vs rows) = λ g R b enough. IsPermutation-refl (filter (fits R) (table w vs rows))

-- Quads that an expression does not need may be left out.
pub needed_suffice : NeededSuffice
needed_suffice w A D E b h = fits-nil (eval w D None A) (eval w E None A) (eval-needed w D E h.within A None [] b h.needed)
