-- Solutions that have a key of their part, and that those of different parts are not compatible.
use Rattle.std.proofs.Common.{◌≡◌, ℕ, zero, suc, ◌+◌, ◌<◌, Bool, true, false, cond, ◌&&◌, ◌||◌, ◌==◌, List, [], ◌∷◌, ◌++◌, length, get_or, take, map, filter, filter_map, flat_map, set, replicate, Option, None, Some, refl, sym, ap, ◌∙◌, subst, ⊎_elim, arith, if◌then◌else◌}
use Rattle.std.specs.List.{cons_option, list_any, list_all}
use Rattle.std.specs.Option.{option_eq}
use Rattle.std.proofs.lemmas.Bool.{cases_Bool, eqb-true, false≢true, and_parts, or_cases}
use Rattle.std.proofs.lemmas.Bool.Decides.{Decides-ltb}
use Rattle.std.proofs.lemmas.List.{get_or-set_same, get_or-take, length-replicate}
use Rattle.rdf_core.specs.declared.term.Term.{Term}
use Rattle.rdf_core.specs.QuadParts.{QuadParts}
use Rattle.rdf_core.proofs.TermLaws.{term_eq, term_decides}
use Rattle.algebra_model.specs.Algebra.{Algebra, GraphName, Pattern, Join, LeftJoin, Union, Minus, Graph, Filter, Extend, Project, Distinct, Table, each_graph, one_graph, is_below, is_name_below, is_triple_below, is_within}
use Rattle.algebra_model.specs.Bag.{without_repeats}
use Rattle.algebra_model.specs.Bgp.{PatternTerm, Triple, TriplePattern, variable, label, constant, bgp, every_map, image, is_in, occurs, takes_to, terms}
use Rattle.algebra_model.specs.Dataset.{graph, names, triple_of}
use Rattle.algebra_model.specs.Eval.{eval, in_graphs, named}
use Rattle.algebra_model.specs.Expression.{holds, val}
use Rattle.algebra_model.specs.Operators.{bind, extend, join, left_join, merges, minus, share}
use Rattle.algebra_model.specs.Renaming.{Each}
use Rattle.algebra_model.specs.Solution.{Solution, agree, bound_or, is_compatible, merge}
use Rattle.algebra_model.specs.Solve.{alone}
use Rattle.algebra_model.proofs.KeyLaws.{agree_at}
use Rattle.algebra_model.proofs.RangeLaws.{Each-append, Each-filter, Each-flat_map, Each-map}
use Rattle.algebra_model.proofs.RepeatLaws.{any-map, any-without_repeats_is}
use Rattle.query_split.specs.declared.split.Split.{Split}
use Rattle.query_split.specs.declared.split.Split.TheVariants as by
use Rattle.query_split.specs.Condition.{Key, has_keys, has_no_graph, is_apart, is_apart_graph, is_apart_pattern, is_key_name, is_key_variable, is_same}
use Rattle.query_split.specs.Parts.{AreApart, HaveOneName}
use Rattle.query_split.proofs.OperatorSplits as operators
use Rattle.query_split.proofs.OperatorSplits.{AreAlien, IsAlien}
use Rattle.query_split.proofs.PatternSplits.{none_meet, taken}

-- ---- one place of a solution

nothing_or : {T : Type 0} (x : Option T) → x ≡ bound_or x None
nothing_or None = refl
nothing_or (Some x) = refl

get-merge : {T : Type 0} (μ ν : Solution T) (k : ℕ) → get_or (merge μ ν) k None ≡ bound_or (get_or μ k None) (get_or ν k None)
get-merge [] ν k = refl
get-merge (x ∷ μ) [] k = nothing_or (get_or (x ∷ μ) k None)
get-merge (x ∷ μ) (y ∷ ν) zero = refl
get-merge (x ∷ μ) (y ∷ ν) (suc k) = get-merge μ ν k

get-bind : {T : Type 0} (v : ℕ) (t : Option T) (μ : Solution T) (k : ℕ) (x : T) → get_or μ k None ≡ Some x → get_or (bind v t μ) k None ≡ Some x
get-bind v t [] k x e = e
get-bind zero t (None ∷ μ) zero x e = absurd (false≢true (ap Rattle.std.proofs.Common.is_some e))
get-bind zero t (None ∷ μ) (suc k) x e = e
get-bind zero t (Some y ∷ μ) k x e = e
get-bind (suc v) t (y ∷ μ) zero x e = e
get-bind (suc v) t (y ∷ μ) (suc k) x e = get-bind v t μ k x e

some_is : {T : Type 0} (x y : T) → Some x ≡ Some y → x ≡ y
some_is {T} x y e = ap get e
  where
    get : Option T → T
    get None = x
    get (Some z) = z

-- ---- keys

module _ (w : ℕ) (key : Key) (K : Term → Type 0) where
  -- the solution has a key that K is true of
  abbrev pub HasKey : Solution Term → Type 0
  HasKey μ = (x : Term) × (image w μ key ≡ Some x) × K x

  keyed-place : (k : ℕ) (μ ν : Solution Term) (x : Term) → get_or μ k None ≡ Some x → get_or (merge μ ν) k None ≡ Some x
  keyed-place k μ ν x e = get-merge μ ν k ∙ ap (λ o. bound_or o (get_or ν k None)) e

  keyed-other : (k : ℕ) (μ ν : Solution Term) (x : Term) → is_compatible term_eq μ ν ≡ true → get_or ν k None ≡ Some x → get_or (merge μ ν) k None ≡ Some x
  keyed-other k μ ν x c e = get-merge μ ν k ∙ ap (bound_or (get_or μ k None)) e ∙ by (get_or μ k None) (ap (agree term_eq (get_or μ k None)) (sym e) ∙ agree_at term_eq μ ν c k)
    where
      by : (o : Option Term) → agree term_eq o (Some x) ≡ true → bound_or o (Some x) ≡ Some x
      by None a = refl
      by (Some y) a = ap Some ((term_decides y x).0 a)

  merge-left : (μ ν : Solution Term) → HasKey μ → HasKey (merge μ ν)
  merge-left μ ν h = (h.0, by key h.1, h.2)
    where
      by : (n : PatternTerm Term) → image w μ n ≡ Some h.0 → image w (merge μ ν) n ≡ Some h.0
      by (variable v) e = keyed-place v μ ν h.0 e
      by (label l) e = keyed-place (w + l) μ ν h.0 e
      by (constant c) e = e

  merge-right : (μ ν : Solution Term) → is_compatible term_eq μ ν ≡ true → HasKey ν → HasKey (merge μ ν)
  merge-right μ ν c h = (h.0, by key h.1, h.2)
    where
      by : (n : PatternTerm Term) → image w ν n ≡ Some h.0 → image w (merge μ ν) n ≡ Some h.0
      by (variable v) e = keyed-other v μ ν h.0 c e
      by (label l) e = keyed-other (w + l) μ ν h.0 c e
      by (constant c) e = e

  bind-keyed : (v : ℕ) (t : Option Term) (μ : Solution Term) → HasKey μ → HasKey (bind v t μ)
  bind-keyed v t μ h = (h.0, by key h.1, h.2)
    where
      by : (n : PatternTerm Term) → image w μ n ≡ Some h.0 → image w (bind v t μ) n ≡ Some h.0
      by (variable u) e = get-bind v t μ u h.0 e
      by (label l) e = get-bind v t μ (w + l) h.0 e
      by (constant c) e = e

  merges-left : (μ : Solution Term) → HasKey μ → (B : List (Solution Term)) → Each HasKey (merges term_eq μ B)
  merges-left μ h [] = tt
  merges-left μ h (ν ∷ B) = by (is_compatible term_eq μ ν) (merges-left μ h B)
    where
      by : (b : Bool) → Each HasKey (merges term_eq μ B) → Each HasKey (map (merge μ) (cond b (ν ∷ filter (is_compatible term_eq μ) B) (filter (is_compatible term_eq μ) B)))
      by true more = (merge-left μ ν h, more)
      by false more = more

  merges-right : (μ : Solution Term) (B : List (Solution Term)) → Each HasKey B → Each HasKey (merges term_eq μ B)
  merges-right μ [] h = tt
  merges-right μ (ν ∷ B) h = by (is_compatible term_eq μ ν) refl (merges-right μ B h.1)
    where
      by : (b : Bool) → is_compatible term_eq μ ν ≡ b → Each HasKey (merges term_eq μ B) → Each HasKey (map (merge μ) (cond b (ν ∷ filter (is_compatible term_eq μ) B) (filter (is_compatible term_eq μ) B)))
      by true e more = (merge-right μ ν e h.0, more)
      by false e more = more

  pub join-left : (A B : List (Solution Term)) → Each HasKey A → Each HasKey (join term_eq A B)
  join-left A B h = Each-flat_map HasKey HasKey (λ μ. merges term_eq μ B) (λ μ k. merges-left μ k B) A h

  pub join-right : (A B : List (Solution Term)) → Each HasKey B → Each HasKey (join term_eq A B)
  join-right A B h = Each-flat_map (λ _. Unit {0}) HasKey (λ μ. merges term_eq μ B) (λ μ k. merges-right μ B h) A (operators.Each-all (λ _. tt) A)

  left_join-keyed : (keeps : Solution Term → Bool) (A B : List (Solution Term)) → Each HasKey A → Each HasKey (left_join term_eq keeps A B)
  left_join-keyed keeps A B h =
      Each-append HasKey (filter keeps (join term_eq A B)) (filter (alone term_eq keeps B) A)
      (Each-filter HasKey keeps (join term_eq A B) (join-left A B h)) (Each-filter HasKey (alone term_eq keeps B) A h)

-- ---- the keys of a dataset

-- what the quads of a dataset have as keys
abbrev pub IsKeyOf : Split → List QuadParts → Term → Type 0
IsKeyOf by.Lines D x = Unit {0}
IsKeyOf by.Subject D x = list_any (λ q. term_eq x q.s) D ≡ true
IsKeyOf by.Graph D x = list_any (term_eq x) (names D) ≡ true
IsKeyOf by.GraphWithDefault D x = list_any (term_eq x) (names D) ≡ true

any_named : (x : Term) (D : List QuadParts) → list_any (term_eq x) (filter_map (λ q. q.g) D) ≡ list_any (λ q. option_eq term_eq (Some x) q.g) D
any_named x [] = refl
any_named x (q ∷ D) = by q.g (any_named x D)
  where
    by : (g : Option Term) → list_any (term_eq x) (filter_map (λ q. q.g) D) ≡ list_any (λ q. option_eq term_eq (Some x) q.g) D
        → list_any (term_eq x) (cons_option g (filter_map (λ q. q.g) D)) ≡ (option_eq term_eq (Some x) g || list_any (λ q. option_eq term_eq (Some x) q.g) D)
    by None ih = ih
    by (Some t) ih = ap (λ b. term_eq x t || b) ih

pub is_named : (x : Term) (D : List QuadParts) → list_any (term_eq x) (names D) ≡ list_any (λ q. option_eq term_eq (Some x) q.g) D
is_named x D = any-without_repeats_is term_eq term_decides x (filter_map (λ q. q.g) D) ∙ any_named x D

-- no key is in two parts
module _ (D E : List QuadParts) (x : Term) where
  not_both_subjects : AreApart by.Subject D E → IsKeyOf by.Subject D x → IsKeyOf by.Subject E x → ⊥
  not_both_subjects apart a b =
      false≢true (sym (none_meet (λ (q r : QuadParts). q.s ≡ r.s) (λ q. term_eq x q.s) (λ r. term_eq x r.s)
      (λ q r f g. sym ((term_decides x q.s).0 f) ∙ (term_decides x r.s).0 g) D E apart a) ∙ b)

  named_by : (g : Option Term) → option_eq term_eq (Some x) g ≡ true → g ≡ Some x
  named_by None e = absurd (false≢true e)
  named_by (Some t) e = ap Some (sym ((term_decides x t).0 e))

  pub not_both_names : AreApart by.Graph D E → IsKeyOf by.Graph D x → IsKeyOf by.Graph E x → ⊥
  not_both_names apart a b =
      false≢true (sym (none_meet HaveOneName (λ q. option_eq term_eq (Some x) q.g) (λ r. option_eq term_eq (Some x) r.g)
      (λ q r f g. (x, named_by q.g f, named_by r.g g)) D E apart (sym (is_named x D) ∙ a)) ∙ sym (is_named x E) ∙ b)

not_both : (split : Split) → has_keys split ≡ true → (D E : List QuadParts) → AreApart split D E → (x : Term) → IsKeyOf split D x → IsKeyOf split E x → ⊥
not_both by.Lines k D E apart x a b = false≢true k
not_both by.Subject k D E apart x a b = not_both_subjects D E x apart a b
not_both by.Graph k D E apart x a b = not_both_names D E x apart a b
not_both by.GraphWithDefault k D E apart x a b = not_both_names D E x apart.0 a b

-- ---- solutions of different parts

module _ (w : ℕ) (key : Key) (K L : Term → Type 0) (never : (x : Term) → K x → L x → ⊥) where
  one_key : (μ ν : Solution Term) (x y : Term) → is_compatible term_eq μ ν ≡ true → image w μ key ≡ Some x → image w ν key ≡ Some y → x ≡ y
  one_key μ ν x y c = by key
    where
      place : (k : ℕ) → get_or μ k None ≡ Some x → get_or ν k None ≡ Some y → x ≡ y
      place k a b = (term_decides x y).0 ((λ i. agree term_eq (sym a i) (sym b i)) ∙ agree_at term_eq μ ν c k)

      by : (n : PatternTerm Term) → image w μ n ≡ Some x → image w ν n ≡ Some y → x ≡ y
      by (variable v) a b = place v a b
      by (label l) a b = place (w + l) a b
      by (constant t) a b = sym (some_is t x a) ∙ some_is t y b

  alien : (μ ν : Solution Term) → HasKey w key K μ → HasKey w key L ν → is_compatible term_eq μ ν ≡ false
  alien μ ν h k =
      ⊎_elim
      (λ (c : is_compatible term_eq μ ν ≡ true). absurd (never h.0 h.2 (subst L (sym (one_key μ ν h.0 k.0 c h.1 k.1)) k.2)))
      (λ (c : is_compatible term_eq μ ν ≡ false). c)
      (cases_Bool (is_compatible term_eq μ ν))

  pub aliens : (A B : List (Solution Term)) → Each (HasKey w key K) A → Each (HasKey w key L) B → AreAlien term_eq A B
  aliens A B h k = operators.Each-map (λ μ a. operators.Each-map (λ ν b. alien μ ν a b) B k) A h

pub are_alien : (split : Split) → has_keys split ≡ true → (D E : List QuadParts) → AreApart split D E → (w : ℕ) (key : Key) (A B : List (Solution Term))
    → Each (HasKey w key (IsKeyOf split D)) A → Each (HasKey w key (IsKeyOf split E)) B → AreAlien term_eq A B
are_alien split k D E apart w key A B = aliens w key (IsKeyOf split D) (IsKeyOf split E) (λ x a b. not_both split k D E apart x a b) A B

pub are_alien_too : (split : Split) → has_keys split ≡ true → (D E : List QuadParts) → AreApart split D E → (w : ℕ) (key : Key) (A B : List (Solution Term))
    → Each (HasKey w key (IsKeyOf split E)) A → Each (HasKey w key (IsKeyOf split D)) B → AreAlien term_eq A B
are_alien_too split k D E apart w key A B = aliens w key (IsKeyOf split E) (IsKeyOf split D) (λ x a b. not_both split k D E apart x b a) A B

-- ---- solutions have keys

-- the subject of a triple that a map takes a pattern to
any_subject : (w : ℕ) (M : Solution Term) (t : TriplePattern Term) (G : List (Triple Term)) → list_any (takes_to term_eq w M t) G ≡ true
    → (x : Term) × (image w M t.s ≡ Some x) × (list_any (λ g. term_eq x g.s) G ≡ true)
any_subject w M t [] e = absurd (false≢true e)
any_subject w M t (g ∷ G) e =
    let more = λ (f : list_any (takes_to term_eq w M t) G ≡ true). any_subject w M t G f in
    ⊎_elim
    (λ (f : takes_to term_eq w M t g ≡ true). (g.s, (taken w M t g f).0, ap (λ b. b || list_any (λ h. term_eq g.s h.s) G) ((term_decides g.s g.s).1 refl)))
    (λ (f : list_any (takes_to term_eq w M t) G ≡ true). let r = more f in (r.0, r.1, right (term_eq r.0 g.s) (list_any (λ h. term_eq r.0 h.s) G) r.2))
    (or_cases (takes_to term_eq w M t g) (list_any (takes_to term_eq w M t) G) e)
  where
    right : (a b : Bool) → b ≡ true → (a || b) ≡ true
    right true b e = refl
    right false b e = e

any_unfilter : {X : Type 0} (p q : X → Bool) (xs : List X) → list_any p (filter q xs) ≡ true → list_any p xs ≡ true
any_unfilter p q [] e = e
any_unfilter {X} p q (x ∷ xs) e = one (q x) e (any_unfilter p q xs)
  where
    right : (a b : Bool) → b ≡ true → (a || b) ≡ true
    right true b e = refl
    right false b e = e

    one : (b : Bool) → list_any p (cond b (x ∷ filter q xs) (filter q xs)) ≡ true → (list_any p (filter q xs) ≡ true → list_any p xs ≡ true) → (p x || list_any p xs) ≡ true
    one true e i = ⊎_elim (λ (t : p x ≡ true). ap (λ b. b || list_any p xs) t) (λ (t : list_any p (filter q xs) ≡ true). right (p x) (list_any p xs) (i t)) (or_cases (p x) (list_any p (filter q xs)) e)
    one false e i = right (p x) (list_any p xs) (i e)

subject_of_graph : (D : List QuadParts) (g : Option Term) (x : Term) → list_any (λ t. term_eq x t.s) (graph D g) ≡ true → list_any (λ q. term_eq x q.s) D ≡ true
subject_of_graph D g x e =
    let mine = λ (q : QuadParts). option_eq term_eq q.g g in
    any_unfilter (λ q. term_eq x q.s) mine D (sym (any-map (λ t. term_eq x t.s) triple_of (filter mine D)) ∙ e)

-- the place of a variable as key
key_place : (w labels : ℕ) (key : Key) (n : PatternTerm Term) (M : Solution Term) (x : Term) → is_key_variable key n ≡ true → is_below w labels n ≡ true
    → image w M n ≡ Some x → image w (take w M) key ≡ Some x
key_place w labels (variable k) (variable v) M x e b i =
    let same : k ≡ v = eqb-true k v e in
    let below : v < w = (Decides-ltb v w).0 b in
    get_or-take w M k None (omega (arith, below, same)) ∙ ap (λ n. get_or M n None) same ∙ i
key_place w labels (variable k) (label l) M x e b i = absurd (false≢true e)
key_place w labels (variable k) (constant c) M x e b i = absurd (false≢true e)
key_place w labels (label l) n M x e b i = absurd (false≢true e)
key_place w labels (constant c) n M x e b i = absurd (false≢true e)

filter-passes : {X : Type 0} (p : X → Bool) (xs : List X) → Each (λ x. p x ≡ true) (filter p xs)
filter-passes p [] = tt
filter-passes {X} p (x ∷ xs) = by (p x) refl (filter-passes p xs)
  where
    by : (b : Bool) → p x ≡ b → Each (λ x. p x ≡ true) (filter p xs) → Each (λ x. p x ≡ true) (cond b (x ∷ filter p xs) (filter p xs))
    by true e h = (e, h)
    by false e h = h

right_true : (a b : Bool) → b ≡ true → (a || b) ≡ true
right_true true b e = refl
right_true false b e = e

-- each element is one of the list
pub members : (xs : List Term) → Each (λ x. list_any (term_eq x) xs ≡ true) xs
members [] = tt
members (x ∷ xs) =
    (ap (λ b. b || list_any (term_eq x) xs) ((term_decides x x).1 refl), operators.Each-map (λ y e. right_true (term_eq y x) (list_any (term_eq y) xs) e) xs (members xs))

module _ (split : Split) (k : has_keys split ≡ true) (w : ℕ) (key : Key) (D : List QuadParts) where
  abbrev Keyed : Solution Term → Type 0
  Keyed = HasKey w key (IsKeyOf split D)

  subject_pattern : (g : Option Term) (labels : ℕ) (t : TriplePattern Term) (P : List (TriplePattern Term)) → is_key_variable key t.s ≡ true → is_below w labels t.s ≡ true
      → Each (HasKey w key (IsKeyOf by.Subject D)) (bgp term_eq w labels (t ∷ P) (graph D g))
  subject_pattern g labels t P e b =
      let G = graph D g in
      let all = every_map (occurs w (t ∷ P)) (terms term_eq G) (w + labels) in
      Each-map (λ M. is_in term_eq w (t ∷ P) G M ≡ true) (HasKey w key (IsKeyOf by.Subject D)) (take w)
      (λ M i. let hit = any_subject w M t G (and_parts _ _ i).0 in (hit.0, key_place w labels key t.s M hit.0 e b hit.1, subject_of_graph D g hit.0 hit.2))
      (filter (is_in term_eq w (t ∷ P) G) all) (filter-passes (is_in term_eq w (t ∷ P) G) all)

  pattern_keyed : (s : Split) → has_keys s ≡ true → (g : Option Term) (labels : ℕ) (P : List (TriplePattern Term)) → list_all (is_triple_below w labels) P ≡ true → is_apart_pattern s key P ≡ true
      → Each (HasKey w key (IsKeyOf s D)) (bgp term_eq w labels P (graph D g))
  pattern_keyed by.Lines h g labels P b a = absurd (false≢true h)
  pattern_keyed by.Subject h g labels [] b a = absurd (false≢true a)
  pattern_keyed by.Subject h g labels (t ∷ P) b a =
      subject_pattern g labels t P (and_parts _ _ a).0 (and_parts _ _ (and_parts _ _ (and_parts _ _ b).0).0).0
  pattern_keyed by.Graph h g labels P b a = absurd (false≢true a)
  pattern_keyed by.GraphWithDefault h g labels P b a = absurd (false≢true a)

  -- under GRAPH, if the solutions in each graph have keys
  inside_keyed : (i : GraphName) (P : Option Term → List (Solution Term)) → ((h : Option Term) → Each Keyed (P h)) → Each Keyed (in_graphs w D i P)
  inside_keyed (each_graph v) P h =
      Each-flat_map (λ _. Unit {0}) Keyed (λ i. join term_eq (P (Some i)) (named w v i)) (λ i _. join-left w key (IsKeyOf split D) (P (Some i)) (named w v i) (h (Some i)))
      (names D) (operators.Each-all (λ _. tt) (names D))
  inside_keyed (one_graph i) P h = one (list_any (term_eq i) (names D))
    where
      one : (b : Bool) → Each Keyed (if b then P (Some i) else [])
      one true = h (Some i)
      one false = tt

  -- under GRAPH with the key as name
  name_keyed : (K : Term → Type 0) → ((x : Term) → list_any (term_eq x) (names D) ≡ true → K x) → (i : GraphName) (P : Option Term → List (Solution Term)) → is_name_below w i ≡ true → is_key_name key i ≡ true
      → Each (HasKey w key K) (in_graphs w D i P)
  name_keyed K known i P b e = by key i e b
    where
      constant_keyed : (c : Term) → K c → (A : List (Solution Term)) → Each (HasKey w (constant c) K) A
      constant_keyed c h A = operators.Each-all (λ μ. (c, refl, h)) A

      in_one : (c t : Term) → term_eq c t ≡ true → (x : Bool) → list_any (term_eq t) (names D) ≡ x → Each (HasKey w (constant c) K) (if x then P (Some t) else [])
      in_one c t e true f = constant_keyed c (known c (ap (λ z. list_any (term_eq z) (names D)) ((term_decides c t).0 e) ∙ f)) (P (Some t))
      in_one c t e false f = tt

      by : (key : Key) (i : GraphName) → is_key_name key i ≡ true → is_name_below w i ≡ true → Each (HasKey w key K) (in_graphs w D i P)
      by (variable v) (each_graph u) e b =
          let same : v ≡ u = eqb-true v u e in
          let below : u < w = (Decides-ltb u w).0 b in
          Each-flat_map (λ x. list_any (term_eq x) (names D) ≡ true) (HasKey w (variable v) K) (λ x. join term_eq (P (Some x)) (named w u x))
          (λ x m. join-right w (variable v) K (P (Some x)) (named w u x)
          ((x, ap (λ n. get_or (set (replicate w None) u (Some x)) n None) same ∙ get_or-set_same (replicate w None) u (Some x) None (omega (arith, below, length-replicate {A = Option Term} w None)), known x m), tt))
          (names D) (members (names D))
      by (variable v) (one_graph t) e b = absurd (false≢true e)
      by (label l) i e b = absurd (false≢true e)
      by (constant c) (each_graph u) e b = absurd (false≢true e)
      by (constant c) (one_graph t) e b = in_one c t e (list_any (term_eq t) (names D)) refl

  graph_keyed : (s : Split) → has_keys s ≡ true → (i : GraphName) (A : Algebra) (inner : Bool) → is_name_below w i ≡ true → is_apart_graph s key i A inner ≡ true
      → (P : Option Term → List (Solution Term)) → (inner ≡ true → Each (HasKey w key (IsKeyOf s D)) (in_graphs w D i P)) → Each (HasKey w key (IsKeyOf s D)) (in_graphs w D i P)
  graph_keyed by.Lines h i A inner b a P ih = absurd (false≢true h)
  graph_keyed by.Subject h i A inner b a P ih = ih (and_parts _ _ a).1
  graph_keyed by.Graph h i A inner b a P ih = name_keyed (IsKeyOf by.Graph D) (λ x e. e) i P b (and_parts _ _ a).1
  graph_keyed by.GraphWithDefault h i A inner b a P ih = name_keyed (IsKeyOf by.GraphWithDefault D) (λ x e. e) i P b (and_parts _ _ a).1

  -- the solutions that come from one part have a key of it
  pub keyed : (A : Algebra) (g : Option Term) → is_within w A ≡ true → is_apart split key A ≡ true → Each Keyed (eval w D g A)
  keyed (Pattern labels P) g b a = pattern_keyed split k g labels P b a
  keyed (Join A B) g b a =
      let p = and_parts (is_within w A) (is_within w B) b in
      let first = λ (x : is_apart split key A ≡ true). keyed A g p.0 x in
      let second = λ (x : is_apart split key B ≡ true). keyed B g p.1 x in
      ⊎_elim
      (λ x. join-left w key (IsKeyOf split D) (eval w D g A) (eval w D g B) (first (and_parts _ _ x).0))
      (λ x. join-right w key (IsKeyOf split D) (eval w D g A) (eval w D g B) (second (and_parts _ _ x).1))
      (or_cases (is_apart split key A && (is_same split B || has_keys split && is_apart split key B)) (is_same split A && is_apart split key B) a)
  keyed (LeftJoin A B e) g b a = left_join-keyed w key (IsKeyOf split D) (holds e) (eval w D g A) (eval w D g B) (keyed A g (and_parts _ _ b).0 (and_parts _ _ a).0)
  keyed (Union A B) g b a = Each-append Keyed (eval w D g A) (eval w D g B) (keyed A g (and_parts _ _ b).0 (and_parts _ _ a).0) (keyed B g (and_parts _ _ b).1 (and_parts _ _ a).1)
  keyed (Minus A B) g b a = Each-filter Keyed (λ μ. list_all (λ ν. Rattle.std.proofs.Common.not (is_compatible term_eq μ ν) || Rattle.std.proofs.Common.not (share μ ν)) (eval w D g B)) (eval w D g A) (keyed A g (and_parts _ _ b).0 (and_parts _ _ a).0)
  keyed (Graph i A) g b a =
      let p = and_parts (is_name_below w i) (is_within w A) b in
      let each = λ (x : is_apart split key A ≡ true) (h : Option Term). keyed A h p.1 x in
      graph_keyed split k i A (is_apart split key A) p.0 a (λ h. eval w D h A) (λ x. inside_keyed i (λ h. eval w D h A) (each x))
  keyed (Filter e A) g b a = Each-filter Keyed (holds e) (eval w D g A) (keyed A g b a)
  keyed (Extend v e A) g b a = Each-map Keyed Keyed (λ μ. bind v (val e μ) μ) (λ μ h. bind-keyed w key (IsKeyOf split D) v (val e μ) μ h) (eval w D g A) (keyed A g (and_parts _ _ b).1 a)
  keyed (Project vs A) g b a = absurd (false≢true a)
  keyed (Distinct A) g b a = absurd (false≢true a)
  keyed (Table vs rows) g b a = absurd (false≢true a)
