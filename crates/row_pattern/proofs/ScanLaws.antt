-- The quads that a scan gives, as triples, and the triples of a graph, which are distinct.
use Rattle.std.proofs.Common.{◌≡◌, ℕ, suc, Bool, true, false, cond, ◌&&◌, ◌||◌, List, [], ◌∷◌, map, filter, filter_map, Option, None, Some, nat_eq, IsPermutation, Contains, refl, sym, ap, ◌∙◌, subst, ⊎_elim, arith}
use Rattle.std.specs.List.{list_any}
use Rattle.std.proofs.lemmas.Bool.{cases_Bool, false≢true, and_parts}
use Rattle.std.proofs.lemmas.Bool.Decides.{Decides-eqb}
use Rattle.std.proofs.lemmas.List.Sorted.{IsPermutation-sym, IsPermutation-map}
use Rattle.dict_core.specs.declared.num_quad.NumQuad.{NumQuad}
use Rattle.dict_core.proofs.NumQuadLaws.{quad_eq, quad_decides}
use Rattle.quad_index.specs.Matching.{is_at, agrees}
use Rattle.algebra_model.specs.Bag.{IsSameBag, IsWithoutRepeats}
use Rattle.algebra_model.specs.Solution.{Solution, agree}
use Rattle.algebra_model.specs.Bgp.{Triple, image, occurring, same_triple_by}
use Rattle.algebra_model.specs.Renaming.{Each, EachOfTriple}
use Rattle.algebra_model.specs.Solve.{extend_by, agrees_with}
use Rattle.algebra_model.proofs.TestLaws.{option_decides}
use Rattle.algebra_model.proofs.PatternLaws.{extend_by-scan}
use Rattle.row_pattern.specs.declared.steps.Step.{Step}
use Rattle.row_pattern.specs.Numbered.{triple_of, is_of, triples_of}
use Rattle.row_pattern.specs.Places.{place_term}
use Rattle.row_pattern.specs.Steps.{step_pattern}

-- the triple has the given numbers
abbrev has : Option ℕ → Option ℕ → Option ℕ → Triple ℕ → Bool
has s p o t = is_at s t.s && (is_at p t.p && is_at o t.o)

triples-scan : (g s p o : Option ℕ) (quads : List NumQuad) → map triple_of (filter (agrees g s p o) quads) ≡ filter (has s p o) (triples_of g quads)
triples-scan g s p o [] = refl
triples-scan g s p o (q ∷ quads) = by (is_of g q) (has s p o (triple_of q)) refl (triples-scan g s p o quads)
  where
    F : List NumQuad
    F = filter (agrees g s p o) quads

    H : List NumQuad
    H = filter (is_of g) quads

    by : (b c : Bool) → has s p o (triple_of q) ≡ c → map triple_of F ≡ filter (has s p o) (map triple_of H) → map triple_of (cond (b && c) (q ∷ F) F) ≡ filter (has s p o) (map triple_of (cond b (q ∷ H) H))
    by true true e i = ap (λ l. triple_of q ∷ l) i ∙ sym (ap (λ v. cond v (triple_of q ∷ filter (has s p o) (map triple_of H)) (filter (has s p o) (map triple_of H))) e)
    by true false e i = i ∙ sym (ap (λ v. cond v (triple_of q ∷ filter (has s p o) (map triple_of H)) (filter (has s p o) (map triple_of H))) e)
    by false c e i = i

equal-back : (m n : ℕ) → nat_eq m n ≡ nat_eq n m
equal-back m n =
    ⊎_elim
    (λ (e : nat_eq m n ≡ true). e ∙ sym ((Decides-eqb n m).1 (sym ((Decides-eqb m n).0 e))))
    (λ (e : nat_eq m n ≡ false).
    ⊎_elim
    (λ (f : nat_eq n m ≡ true). absurd (false≢true (sym e ∙ (Decides-eqb m n).1 (sym ((Decides-eqb n m).0 f)))))
    (λ (f : nat_eq n m ≡ false). e ∙ sym f)
    (cases_Bool (nat_eq n m)))
    (cases_Bool (nat_eq m n))

at-agree : (o : Option ℕ) (n : ℕ) → agree nat_eq o (Some n) ≡ is_at o n
at-agree None n = refl
at-agree (Some m) n = equal-back m n

and-right : (a b c : Bool) → ((a && b) && c) ≡ (a && (b && c))
and-right true b c = refl
and-right false b c = refl

has-agrees : (t : Step) (m : Solution ℕ) (g : Triple ℕ) → agrees_with nat_eq 0 (step_pattern t) m g ≡ has (image 0 m (place_term t.subject)) (image 0 m (place_term t.predicate)) (image 0 m (place_term t.object)) g
has-agrees t m g =
    (λ i. (at-agree (image 0 m (place_term t.subject)) g.s i && at-agree (image 0 m (place_term t.predicate)) g.p i) && at-agree (image 0 m (place_term t.object)) g.o i)
    ∙ and-right (is_at (image 0 m (place_term t.subject)) g.s) (is_at (image 0 m (place_term t.predicate)) g.p) (is_at (image 0 m (place_term t.object)) g.o)

-- a scan with what a row binds gives everything that extends the row
pub scan-extends : (g : Option ℕ) (quads result : List NumQuad) (t : Step) (m : Solution ℕ) (s p o : Option ℕ)
    → s ≡ image 0 m (place_term t.subject) → p ≡ image 0 m (place_term t.predicate) → o ≡ image 0 m (place_term t.object)
    → IsPermutation (filter (agrees g s p o) quads) result
    → IsSameBag (filter_map (extend_by nat_eq 0 (step_pattern t) m) (map triple_of result)) (filter_map (extend_by nat_eq 0 (step_pattern t) m) (triples_of g quads))
scan-extends g quads result t m s p o es ep eo h =
    let back : IsPermutation (map triple_of result) (map triple_of (filter (agrees g s p o) quads)) =
    IsPermutation-map triple_of result (filter (agrees g s p o) quads) (IsPermutation-sym (filter (agrees g s p o) quads) result h) in
    let test : (x : Triple ℕ) → agrees_with nat_eq 0 (step_pattern t) m x ≡ has s p o x = λ x. has-agrees t m x ∙ (λ i. has (sym es i) (sym ep i) (sym eo i) x) in
    extend_by-scan nat_eq Decides-eqb 0 (step_pattern t) m (has s p o) (λ x e. test x ∙ e) (map triple_of result) (triples_of g quads)
    (subst (λ (l : List (Triple ℕ)). IsPermutation (map triple_of result) l) (triples-scan g s p o quads) back)

-- no triple of a graph occurs twice

same-quad : (g : Option ℕ) (q x : NumQuad) → is_of g q ≡ true → is_of g x ≡ true → same_triple_by nat_eq (triple_of q) (triple_of x) ≡ true → quad_eq q x ≡ true
same-quad g q x a b e =
    let d = option_decides nat_eq Decides-eqb in
    let so = and_parts _ _ e in
    let sp = and_parts _ _ so.0 in
    let eg : q.g ≡ x.g = (d q.g g).0 a ∙ sym ((d x.g g).0 b) in
    let es : q.s ≡ x.s = (Decides-eqb q.s x.s).0 sp.0 in
    let ep : q.p ≡ x.p = (Decides-eqb q.p x.p).0 sp.1 in
    let eo : q.o ≡ x.o = (Decides-eqb q.o x.o).0 so.1 in
    (quad_decides q x).1 (λ i. record { g = eg i; s = es i; p = ep i; o = eo i })

apart-triples : (g : Option ℕ) (q : NumQuad) (quads : List NumQuad) → is_of g q ≡ true → list_any (quad_eq q) quads ≡ false → list_any (same_triple_by nat_eq (triple_of q)) (triples_of g quads) ≡ false
apart-triples g q [] a h = refl
apart-triples g q (x ∷ quads) a h =
    let here : quad_eq q x ≡ false = (either (quad_eq q x) (list_any (quad_eq q) quads) h).0 in
    let rest = apart-triples g q quads a (either (quad_eq q x) (list_any (quad_eq q) quads) h).1 in
    ⊎_elim
    (λ (b : is_of g x ≡ true).
    ⊎_elim
    (λ (e : same_triple_by nat_eq (triple_of q) (triple_of x) ≡ true). absurd (false≢true (sym here ∙ same-quad g q x a b e)))
    (λ (e : same_triple_by nat_eq (triple_of q) (triple_of x) ≡ false).
    ap (λ v. list_any (same_triple_by nat_eq (triple_of q)) (map triple_of (cond v (x ∷ filter (is_of g) quads) (filter (is_of g) quads)))) b ∙ ap (λ v. v || list_any (same_triple_by nat_eq (triple_of q)) (triples_of g quads)) e ∙ rest)
    (cases_Bool (same_triple_by nat_eq (triple_of q) (triple_of x))))
    (λ (b : is_of g x ≡ false). ap (λ v. list_any (same_triple_by nat_eq (triple_of q)) (map triple_of (cond v (x ∷ filter (is_of g) quads) (filter (is_of g) quads)))) b ∙ rest)
    (cases_Bool (is_of g x))
  where
    either : (a b : Bool) → (a || b) ≡ false → (a ≡ false) × (b ≡ false)
    either true b e = absurd (false≢true (sym e))
    either false b e = (refl, e)

pub triples-once : (g : Option ℕ) (quads : List NumQuad) → IsWithoutRepeats quad_eq quads → IsWithoutRepeats (same_triple_by nat_eq) (triples_of g quads)
triples-once g [] h = tt
triples-once g (q ∷ quads) h =
    let P : Bool → Type 0 = λ v. IsWithoutRepeats (same_triple_by nat_eq) (map triple_of (cond v (q ∷ filter (is_of g) quads) (filter (is_of g) quads))) in
    ⊎_elim
    (λ (b : is_of g q ≡ true). subst P (sym b) (apart-triples g q quads b h.0, triples-once g quads h.1))
    (λ (b : is_of g q ≡ false). subst P (sym b) (triples-once g quads h.1))
    (cases_Bool (is_of g q))

-- the numbers of the triples occur in them

Each-more : {X : Type 0} (P Q : X → Type 0) → ((x : X) → P x → Q x) → (xs : List X) → Each P xs → Each Q xs
Each-more P Q f [] h = tt
Each-more P Q f (x ∷ xs) h = (f x h.0, Each-more P Q f xs h.1)

deeper : (a b c : ℕ) (xs : List ℕ) (n : ℕ) → Contains xs n → Contains (a ∷ b ∷ c ∷ xs) n
deeper a b c xs n h = (suc (suc (suc h.0)), omega (arith, h.1), h.2)

pub each-occurs : (G : List (Triple ℕ)) → Each (EachOfTriple (λ n. Contains (occurring G) n)) G
each-occurs [] = tt
each-occurs (g ∷ G) = (
  ((0, omega arith, refl), (1, omega arith, refl), (2, omega arith, refl)),
  Each-more (EachOfTriple (λ n. Contains (occurring G) n)) (EachOfTriple (λ n. Contains (occurring (g ∷ G)) n))
      (λ t h. (deeper g.s g.p g.o (occurring G) t.s h.0, deeper g.s g.p g.o (occurring G) t.p h.1, deeper g.s g.p g.o (occurring G) t.o h.2)) G (each-occurs G),
)
