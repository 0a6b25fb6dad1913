-- Basic graph patterns over two lists of triples, if no solution takes triples of both.
use Rattle.std.proofs.Common.{◌≡◌, ℕ, zero, suc, ◌+◌, Bool, true, false, cond, ◌&&◌, ◌||◌, not, List, [], ◌∷◌, ◌++◌, take, map, filter, replicate, Option, None, Some, Decides, IsPermutation, refl, sym, ap, ◌∙◌, subst, ⊎_elim, arith, append-nil}
use Rattle.std.specs.List.{list_any, list_all}
use Rattle.std.specs.Option.{option_eq}
use Rattle.std.proofs.lemmas.Bool.{cases_Bool, false≢true, and_parts}
use Rattle.std.proofs.lemmas.List.{map-append, length-replicate}
use Rattle.std.proofs.lemmas.List.Folds.{list_any-append}
use Rattle.std.proofs.lemmas.List.Sorted.{IsPermutation-map, IsPermutation-append, IsPermutation-sym, IsPermutation-trans}
use Rattle.rdf_core.specs.declared.term.Term.{Term}
use Rattle.rdf_core.proofs.TermLaws.{term_eq, term_decides}
use Rattle.algebra_model.specs.Bag.{IsSameBag, IsWithoutRepeats, without_repeats}
use Rattle.algebra_model.specs.Bgp.{Triple, TriplePattern, bgp, image, is_in, occurs, same_triple_by, takes_to}
use Rattle.algebra_model.specs.Renaming.{Each}
use Rattle.algebra_model.specs.Solution.{Solution, same_solution}
use Rattle.algebra_model.specs.Solve.{AreBelow, solve}
use Rattle.algebra_model.proofs.BagLaws.{count_by-append, permutation_from_counts}
use Rattle.algebra_model.proofs.BgpLaws.{solution_decides, solve-bgp}
use Rattle.algebra_model.proofs.RangeLaws.{Each-without_repeats}
use Rattle.algebra_model.proofs.RepeatLaws.{IsWithoutRepeats-without_repeats}
use Rattle.algebra_model.proofs.SetLaws.{AreAlike, bgp-alike}
use Rattle.algebra_model.proofs.SolveLaws.{count_by-solve, fits}
use Rattle.algebra_model.proofs.TestLaws.{option_decides}
use Rattle.query_split.proofs.OperatorSplits.{Each-map}

-- ---- triples

abbrev same_triple : Triple Term → Triple Term → Bool
same_triple = same_triple_by term_eq

pub triple_decides : (x y : Triple Term) → Decides (same_triple x y) (x ≡ y)
triple_decides x y = (there, back)
  where
    there : same_triple x y ≡ true → x ≡ y
    there e =
        let a = and_parts _ _ e in
        let b = and_parts _ _ a.0 in
        λ i. record { s = (term_decides x.s y.s).0 b.0 i; p = (term_decides x.p y.p).0 b.1 i; o = (term_decides x.o y.o).0 a.1 i }

    back : x ≡ y → same_triple x y ≡ true
    back e =
        (λ i. ((term_decides x.s y.s).1 (ap (λ t. t.s) e) i && (term_decides x.p y.p).1 (ap (λ t. t.p) e) i) && (term_decides x.o y.o).1 (ap (λ t. t.o) e) i)

-- ---- lists without repeats

module _ {X : Type 0} (same : X → X → Bool) (decides : (x y : X) → Decides (same x y) (x ≡ y)) where
  any-unlike : (p : X → Bool) (x : X) → p x ≡ false → (ys : List X) → list_any p (filter (λ y. not (same x y)) ys) ≡ list_any p ys
  any-unlike p x e [] = refl
  any-unlike p x e (y ∷ ys) = by (same x y) refl (any-unlike p x e ys)
    where
      by : (b : Bool) → same x y ≡ b → list_any p (filter (λ y. not (same x y)) ys) ≡ list_any p ys
          → list_any p (cond (not b) (y ∷ filter (λ y. not (same x y)) ys) (filter (λ y. not (same x y)) ys)) ≡ (p y || list_any p ys)
      by true f ih = ih ∙ ap (λ b. b || list_any p ys) (sym (ap p (sym ((decides x y).0 f)) ∙ e))
      by false f ih = ap (λ b. p y || b) ih

  -- a list passes a test with its repeats or without
  pub alike-without_repeats : (xs : List X) → AreAlike (without_repeats same xs) xs
  alike-without_repeats [] p = refl
  alike-without_repeats (x ∷ xs) p = by (p x) refl (alike-without_repeats xs p)
    where
      by : (b : Bool) → p x ≡ b → list_any p (without_repeats same xs) ≡ list_any p xs
          → (b || list_any p (filter (λ y. not (same x y)) (without_repeats same xs))) ≡ (b || list_any p xs)
      by true e ih = refl
      by false e ih = any-unlike p x e (without_repeats same xs) ∙ ih

  -- two lists without a common element
  pub once-append : (xs ys : List X) → IsWithoutRepeats same xs → IsWithoutRepeats same ys → Each (λ x. Each (λ y. x ≡ y → ⊥) ys) xs → IsWithoutRepeats same (xs ++ ys)
  once-append [] ys h k a = k
  once-append (x ∷ xs) ys h k a =
      (list_any-append (same x) xs ys ∙ ap (λ b. b || list_any (same x) ys) h.0 ∙ none ys a.0, once-append xs ys h.1 k a.1)
    where
      none : (ys : List X) → Each (λ y. x ≡ y → ⊥) ys → list_any (same x) ys ≡ false
      none [] a = refl
      none (y ∷ ys) a =
          ⊎_elim
          (λ (e : same x y ≡ true). absurd (a.0 ((decides x y).0 e)))
          (λ (e : same x y ≡ false). ap (λ b. b || list_any (same x) ys) e ∙ none ys a.1)
          (cases_Bool (same x y))

-- no element of the one list meets one of the other
abbrev pub NoneMeet : {X : Type 0} → (X → X → Type 0) → List X → List X → Type 0
NoneMeet Meets xs ys = Each (λ x. Each (λ y. Meets x y → ⊥) ys) xs

pub none_meet : {X : Type 0} (Meets : X → X → Type 0) (p q : X → Bool) → ((x y : X) → p x ≡ true → q y ≡ true → Meets x y)
    → (xs ys : List X) → NoneMeet Meets xs ys → list_any p xs ≡ true → list_any q ys ≡ false
none_meet Meets p q h [] ys a e = absurd (false≢true e)
none_meet {X} Meets p q h (x ∷ xs) ys a e =
    let more = λ (f : list_any p xs ≡ true). none_meet Meets p q h xs ys a.1 f in
    ⊎_elim
    (λ (f : p x ≡ true). none ys f a.0)
    (λ (f : p x ≡ false). more (sym (ap (λ b. b || list_any p xs) f) ∙ e))
    (cases_Bool (p x))
  where
    none : (ys : List X) → p x ≡ true → Each (λ y. Meets x y → ⊥) ys → list_any q ys ≡ false
    none [] f a = refl
    none (y ∷ ys) f a =
        ⊎_elim
        (λ (e : q y ≡ true). absurd (a.0 (h x y f e)))
        (λ (e : q y ≡ false). ap (λ b. b || list_any q ys) e ∙ none ys f a.1)
        (cases_Bool (q y))

-- ---- patterns

abbrev hits : ℕ → Solution Term → List (Triple Term) → TriplePattern Term → Bool
hits w M G t = list_any (takes_to term_eq w M t) G

-- where a map takes a position of a pattern
pub taken : (w : ℕ) (M : Solution Term) (t : TriplePattern Term) (g : Triple Term) → takes_to term_eq w M t g ≡ true
    → (image w M t.s ≡ Some g.s) × (image w M t.p ≡ Some g.p) × (image w M t.o ≡ Some g.o)
taken w M t g e =
    let a = and_parts _ _ e in
    let b = and_parts _ _ a.0 in
    let is = option_decides term_eq term_decides in
    ((is (image w M t.s) (Some g.s)).0 b.0, (is (image w M t.p) (Some g.p)).0 b.1, (is (image w M t.o) (Some g.o)).0 a.1)

module _
    (w : ℕ) (Q : TriplePattern Term → Type 0)
    (Meets : Triple Term → Triple Term → Type 0)
    (equal : (x y : Triple Term) → x ≡ y → Meets x y)
    (meet : (M : Solution Term) (t u : TriplePattern Term) (x y : Triple Term) → Q t → Q u → takes_to term_eq w M t x ≡ true → takes_to term_eq w M u y ≡ true → Meets x y) where
  module _ (G H : List (Triple Term)) (apart : NoneMeet Meets G H) (M : Solution Term) where
    -- if a map takes one triple pattern to a triple of G, it takes none to a triple of H
    excluded : (t u : TriplePattern Term) → Q t → Q u → hits w M G t ≡ true → hits w M H u ≡ false
    excluded t u a b e = none_meet Meets (takes_to term_eq w M t) (takes_to term_eq w M u) (λ x y f g. meet M t u x y a b f g) G H apart e

    or_false : (a : Bool) → (a || false) ≡ a
    or_false true = refl
    or_false false = refl

    first_alone : (P : List (TriplePattern Term)) → Each (λ u. hits w M H u ≡ false) P → is_in term_eq w P (G ++ H) M ≡ is_in term_eq w P G M
    first_alone [] h = refl
    first_alone (u ∷ P) h =
        λ i. (list_any-append (takes_to term_eq w M u) G H ∙ ap (λ b. hits w M G u || b) h.0 ∙ or_false (hits w M G u)) i && first_alone P h.1 i

    second_alone : (P : List (TriplePattern Term)) → Each (λ u. hits w M G u ≡ false) P → is_in term_eq w P (G ++ H) M ≡ is_in term_eq w P H M
    second_alone [] h = refl
    second_alone (u ∷ P) h =
        λ i. (list_any-append (takes_to term_eq w M u) G H ∙ ap (λ b. b || hits w M H u) h.0) i && second_alone P h.1 i

    -- the numbers 1 for true and 0 for false, in which both lists together have what each has
    abbrev one : Bool → ℕ
    one b = cond b 1 0

    add_up : (a b c f : Bool) → ((a ≡ b) × (c ≡ false)) → one (a && f) ≡ one (b && f) + one (c && f)
    add_up a b c f h = (λ i. one (h.0 i && f)) ∙ (let e : one (b && f) ≡ one (b && f) + 0 = omega arith in e) ∙ ap (λ x. one (b && f) + one (x && f)) (sym h.1)

    add_up_right : (a b c f : Bool) → ((a ≡ c) × (b ≡ false)) → one (a && f) ≡ one (b && f) + one (c && f)
    add_up_right a b c f h = (λ i. one (h.0 i && f)) ∙ (let e : one (c && f) ≡ 0 + one (c && f) = omega arith in e) ∙ ap (λ x. one (x && f) + one (c && f)) (sym h.1)

    in_one : (t : TriplePattern Term) (P : List (TriplePattern Term)) → Each Q (t ∷ P) → (f : Bool)
        → one (is_in term_eq w (t ∷ P) (G ++ H) M && f) ≡ one (is_in term_eq w (t ∷ P) G M && f) + one (is_in term_eq w (t ∷ P) H M && f)
    in_one t P q f =
        let S = is_in term_eq w (t ∷ P) in
        ⊎_elim
        (λ (e : hits w M G t ≡ true).
        let none = Each-map (λ u k. excluded t u q.0 k e) (t ∷ P) q in
        add_up (S (G ++ H) M) (S G M) (S H M) f
        (first_alone (t ∷ P) none, ap (λ b. b && is_in term_eq w P H M) none.0))
        (λ (e : hits w M G t ≡ false).
        ⊎_elim
        (λ (g : hits w M H t ≡ true).
        let none = Each-map (λ u k. back u k g) (t ∷ P) q in
        add_up_right (S (G ++ H) M) (S G M) (S H M) f
        (second_alone (t ∷ P) none, ap (λ b. b && is_in term_eq w P G M) none.0))
        (λ (g : hits w M H t ≡ false).
        add_up (S (G ++ H) M) (S G M) (S H M) f (
          ap (λ b. b && is_in term_eq w P (G ++ H) M) (list_any-append (takes_to term_eq w M t) G H ∙ (λ i. e i || g i)) ∙ sym (ap (λ b. b && is_in term_eq w P G M) e),
          ap (λ b. b && is_in term_eq w P H M) g,
        ))
        (cases_Bool (hits w M H t)))
        (cases_Bool (hits w M G t))
      where
        back : (u : TriplePattern Term) → Q u → hits w M H t ≡ true → hits w M G u ≡ false
        back u k g = ⊎_elim
            (λ (x : hits w M G u ≡ true). absurd (false≢true (sym (excluded u t k q.0 x) ∙ g)))
            (λ (x : hits w M G u ≡ false). x)
            (cases_Bool (hits w M G u))

  apart_without_repeats : (G H : List (Triple Term)) → NoneMeet Meets G H → NoneMeet Meets (without_repeats same_triple G) (without_repeats same_triple H)
  apart_without_repeats G H apart =
      Each-without_repeats (λ x. Each (λ y. Meets x y → ⊥) (without_repeats same_triple H)) same_triple G
      (Each-map (λ x k. Each-without_repeats (λ y. Meets x y → ⊥) same_triple H k) G apart)

  -- the solutions over both lists are those over each, if there is a triple pattern
  pub bgp-split : (l : ℕ) (t : TriplePattern Term) (P : List (TriplePattern Term)) → AreBelow w (w + l) (t ∷ P) → Each Q (t ∷ P) → (G H : List (Triple Term)) → NoneMeet Meets G H
      → IsSameBag (bgp term_eq w l (t ∷ P) (G ++ H)) (bgp term_eq w l (t ∷ P) G ++ bgp term_eq w l (t ∷ P) H)
  bgp-split l t P below q G H apart =
      let V = without_repeats same_triple G in
      let W = without_repeats same_triple H in
      let apart_once = apart_without_repeats G H apart in
      let onceV = IsWithoutRepeats-without_repeats same_triple G in
      let onceW = IsWithoutRepeats-without_repeats same_triple H in
      let once = once-append same_triple triple_decides V W onceV onceW (Each-map (λ x k. Each-map (λ y n e. n (equal x y e)) W k) V apart_once) in
      let B = bgp term_eq w l (t ∷ P) in
      let N = replicate (w + l) None in
      let S = λ (K : List (Triple Term)). solve term_eq w (t ∷ P) K N in
      let counted = λ (K : List (Triple Term)) (k : IsWithoutRepeats same_triple K) (M : Solution Term). count_by-solve term_eq term_decides w (w + l) (t ∷ P) K k below N M (length-replicate (w + l) None) in
      let solved : IsPermutation (S (V ++ W)) (S V ++ S W) = permutation_from_counts (same_solution term_eq) (solution_decides term_eq term_decides) (S (V ++ W)) (S V ++ S W)
      (λ M.
      counted (V ++ W) once M
      ∙ in_one V W apart_once M t P q (fits term_eq N (occurs w (t ∷ P)) M)
      ∙ (λ i. sym (counted V onceV M) i + sym (counted W onceW M) i)
      ∙ sym (count_by-append (same_solution term_eq M) (S V) (S W))) in
      let alike : AreAlike (G ++ H) (V ++ W) = λ p.
      list_any-append p G H ∙ (λ i. sym (alike-without_repeats same_triple triple_decides G p) i || sym (alike-without_repeats same_triple triple_decides H p) i) ∙ sym (list_any-append p V W) in
      let one = bgp-alike term_eq term_decides w l (t ∷ P) (G ++ H) (V ++ W) alike in
      let two = IsPermutation-sym (map (take w) (S (V ++ W))) (B (V ++ W)) (solve-bgp term_eq term_decides w l (t ∷ P) (V ++ W) once below) in
      let three = subst (λ r. IsPermutation (map (take w) (S (V ++ W))) r) (map-append (take w) (S V) (S W)) (IsPermutation-map (take w) (S (V ++ W)) (S V ++ S W) solved) in
      let each = λ (K : List (Triple Term)).
      IsPermutation-trans (map (take w) (S (without_repeats same_triple K))) (B (without_repeats same_triple K)) (B K)
      (solve-bgp term_eq term_decides w l (t ∷ P) (without_repeats same_triple K) (IsWithoutRepeats-without_repeats same_triple K) below)
      (bgp-alike term_eq term_decides w l (t ∷ P) (without_repeats same_triple K) K (alike-without_repeats same_triple triple_decides K)) in
      let four = IsPermutation-append (map (take w) (S V)) (B G) (map (take w) (S W)) (B H) (each G) (each H) in
      IsPermutation-trans (B (G ++ H)) (B (V ++ W)) (B G ++ B H) one
      (IsPermutation-trans (B (V ++ W)) (map (take w) (S (V ++ W))) (B G ++ B H) two
      (IsPermutation-trans (map (take w) (S (V ++ W))) (map (take w) (S V) ++ map (take w) (S W)) (B G ++ B H) three four))
