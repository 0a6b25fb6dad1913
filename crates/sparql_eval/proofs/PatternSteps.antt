-- Patterns whose constants are looked up in a dictionary.
use Rattle.std.proofs.Common.{◌≡◌, ℕ, ◌+◌, ◌<◌, Bool, true, false, cond, ◌||◌, List, [], ◌∷◌, ◌++◌, length, map, filter, nat_eq, slice_get, zero, suc, Contains, Option, None, Some, MatchOption, refl, sym, ap, ◌∙◌, subst}
use Rattle.std.specs.List.{list_any, list_all}
use Rattle.std.specs.Option.{option_map, option_eq, ForSome}
use Rattle.std.proofs.lemmas.List.Elements.{All-head, All-tail, Contains-get_or}
use Rattle.rdf_core.specs.declared.term.Term.{Term}
use Rattle.rdf_core.specs.declared.term.Term.TheVariants.{Blank}
use Rattle.rdf_core.specs.QuadParts.{QuadParts}
use Rattle.rdf_core.proofs.TermLaws.{term_eq, term_decides}
use Rattle.algebra_model.specs.Algebra.{is_triple_below}
use Rattle.algebra_model.specs.Bag.{IsSameBag, IsWithoutRepeats}
use Rattle.algebra_model.specs.Bgp.{PatternTerm, TriplePattern, constant, bgp, occurring}
use Rattle.algebra_model.specs.Dataset.{graph, triple_of}
use Rattle.algebra_model.specs.Renaming.{Each, EachOfPattern, read_pattern}
use Rattle.algebra_model.specs.Solve as solve
use Rattle.algebra_model.proofs.WithinLaws.{are_below, are_below-unread, bgp-absent, has_term, is_the_term}
use Rattle.algebra_model.proofs.RangeLaws.{Each-append}
use Rattle.std.proofs.lemmas.List.{map-append}
use Rattle.dict_core.specs.Dict as dict
use Rattle.dict_core.specs.Dict.{term_at}
use Rattle.dict_core.specs.NumQuad.{AreBelow, IsBelow, quads_at, quad_at}
use Rattle.dict_core.specs.declared.num_quad.NumQuad.{NumQuad}
use Rattle.dict_core.proofs.NumQuadLaws.{quad_eq}
use Rattle.row_core.specs.RowList.{RowList}
use Rattle.row_pattern.specs.Laws.{RowsReadAsSolutions}
use Rattle.row_pattern.specs.Numbered.{triples_of}
use Rattle.sparql_eval.specs.Constants.{ArePatternsOf, IsPatternOf, IsPatternTermOf, LacksSome, LacksTerm, LacksTriple}
use Rattle.sparql_eval.specs.Evaluated.{IsEvaluated}
use Rattle.sparql_eval.proofs.ReadingLaws.{Known, read_by, apart, evaluated, grown_itself, number_known, number_read}

-- the variables and blank node labels of the pattern are below the counts, also with numbers for
-- its terms
pub numbers_below : (terms : List Term) (w l : ℕ) (P : List (TriplePattern Term)) (N : List (TriplePattern ℕ)) → list_all (is_triple_below w l) P ≡ true → ArePatternsOf terms P N → solve.AreBelow w (w + l) N
numbers_below terms w l P N below h =
    are_below-unread (term_at terms) w (w + l) N (subst (solve.AreBelow w (w + l)) (sym h.0) (are_below w l P below))

-- a term that the dictionary lacks does not occur in the quads
pub not_at : (terms : List Term) (c : Term) → (Contains terms c → ⊥) → (n : ℕ) → n < length terms → term_eq c (term_at terms n) ≡ false
not_at terms c lacks n below = by (term_eq c (term_at terms n)) refl
  where
    by : (b : Bool) → term_eq c (term_at terms n) ≡ b → term_eq c (term_at terms n) ≡ false
    by false e = e
    by true e = absurd (lacks (subst (Contains terms) (sym ((term_decides c (term_at terms n)).0 e)) (Contains-get_or terms n (Blank []) below)))

pub not_occurring : (terms : List Term) (c : Term) → (Contains terms c → ⊥) → (D : List NumQuad) → AreBelow (length terms) D → (g : Option Term) → list_any (term_eq c) (occurring (graph (quads_at terms D) g)) ≡ false
not_occurring terms c lacks [] below g = refl
not_occurring terms c lacks (q ∷ D) below g =
    by (not_occurring terms c lacks D (All-tail (IsBelow (length terms)) q D below) g) (option_eq term_eq (quad_at terms q).g g)
  where
    by : list_any (term_eq c) (occurring (graph (quads_at terms D) g)) ≡ false → (b : Bool)
        → list_any (term_eq c) (occurring (map triple_of (cond b (quad_at terms q ∷ filter (λ (p : QuadParts). option_eq term_eq p.g g) (quads_at terms D)) (filter (λ (p : QuadParts). option_eq term_eq p.g g) (quads_at terms D))))) ≡ false
    by rest false = rest
    by rest true =
        let h = All-head (IsBelow (length terms)) q D below in
        λ i. not_at terms c lacks q.s h.0 i || (not_at terms c lacks q.p h.1 i || (not_at terms c lacks q.o h.2 i || rest i))

-- a pattern with a term that the dictionary lacks has no solution
pub lacking : (terms : List Term) (w l : ℕ) (P : List (TriplePattern Term)) (D : List NumQuad) (g : Option Term) → AreBelow (length terms) D → LacksSome terms P → (made : RowList) → made.width ≡ w → made.rows ≡ []
    → IsEvaluated terms w (bgp term_eq w l P (graph (quads_at terms D) g)) made terms
lacking terms w l P D g below h made wide none =
    let empty = bgp-absent term_eq term_decides w l h.0 P (graph (quads_at terms D) g) (not_occurring terms h.0 h.1 D below g) h.2 in
    evaluated terms w _ made wide (subst (Each (Known terms)) (sym none) tt) (ap (map (read_by terms)) none ∙ sym empty)

pub solved : RowsReadAsSolutions → (terms : List Term) → dict.AreDistinct terms → (w l : ℕ) (P : List (TriplePattern Term)) (N : List (TriplePattern ℕ)) (D : List NumQuad) (g : Option ℕ) → IsWithoutRepeats quad_eq D → AreBelow (length terms) D → ForSome g (λ x. x < length terms)
    → list_all (is_triple_below w l) P ≡ true → ArePatternsOf terms P N → (made : RowList) → made.width ≡ w → IsSameBag made.rows (bgp nat_eq w l N (triples_of g D))
    → IsEvaluated terms w (bgp term_eq w l P (graph (quads_at terms D) (option_map (term_at terms) g))) made terms
solved law terms once w l P N D g distinct below named within h made wide bag =
    let r = law terms D g (apart terms once) distinct below named w l N (numbers_below terms w l P N within h) h.1 made.rows bag in
    record {
      grown = grown_itself terms;
      wide = wide;
      known = r.1;
      bag = subst (λ (Q : List (TriplePattern Term)). IsSameBag (map (read_by terms) made.rows) (bgp term_eq w l Q (graph (quads_at terms D) (option_map (term_at terms) g)))) h.0 r.0;
    }

-- ---- the terms of a pattern, looked up

pub constant_found : (terms : List Term) (n : ℕ) (t : Term) → slice_get terms n ≡ Some t → IsPatternTermOf terms (constant t) (constant n)
constant_found terms n t h = (ap constant (number_read terms n t h), number_known terms n t h)

pub constant_lacks : (terms : List Term) (t : Term) → (Contains terms t → ⊥) → LacksTerm terms (constant t)
constant_lacks terms t h = (t, h, (term_decides t t).1 refl)

or_right : (a b : Bool) → b ≡ true → (a || b) ≡ true
or_right true b e = refl
or_right false b e = e

pub lacks_subject : (terms : List Term) (t : TriplePattern Term) → LacksTerm terms t.s → LacksTriple terms t
lacks_subject terms t h = (h.0, h.1, λ i. (h.2 i || is_the_term term_eq h.0 t.p) || is_the_term term_eq h.0 t.o)

pub lacks_predicate : (terms : List Term) (t : TriplePattern Term) → LacksTerm terms t.p → LacksTriple terms t
lacks_predicate terms t h = (h.0, h.1, λ i. or_right (is_the_term term_eq h.0 t.s) (is_the_term term_eq h.0 t.p) h.2 i || is_the_term term_eq h.0 t.o)

pub lacks_object : (terms : List Term) (t : TriplePattern Term) → LacksTerm terms t.o → LacksTriple terms t
lacks_object terms t h = (h.0, h.1, or_right (is_the_term term_eq h.0 t.s || is_the_term term_eq h.0 t.p) (is_the_term term_eq h.0 t.o) h.2)

pub triple_found : (terms : List Term) (t : TriplePattern Term) (s p o : PatternTerm ℕ) → IsPatternTermOf terms t.s s → IsPatternTermOf terms t.p p → IsPatternTermOf terms t.o o → IsPatternOf terms t (record { s = s; p = p; o = o })
triple_found terms t s p o hs hp ho = ((λ i. record { s = hs.0 i; p = hp.0 i; o = ho.0 i }), (hs.1, hp.1, ho.1))

any_at : {X : Type 0} (p : X → Bool) (xs : List X) (i : ℕ) (x : X) → slice_get xs i ≡ Some x → p x ≡ true → list_any p xs ≡ true
any_at p [] i x h e = cc
any_at p (y ∷ xs) zero x h e = let q : y ≡ x = cc in ap (λ b. b || list_any p xs) (ap p q ∙ e)
any_at p (y ∷ xs) (suc i) x h e = or_right (p y) (list_any p xs) (any_at p xs i x h e)

get_map : {X Y : Type 0} (f : X → Y) (xs : List X) (i : ℕ) (x : X) → slice_get xs i ≡ Some x → slice_get (map f xs) i ≡ Some (f x)
get_map f [] i x h = cc
get_map f (y ∷ xs) zero x h = let q : y ≡ x = cc in ap (λ z. Some (f z)) q
get_map f (y ∷ xs) (suc i) x h = get_map f xs i x h

pub some_lacks : {X : Type 0} (terms : List Term) (f : X → TriplePattern Term) (xs : List X) (i : ℕ) (x : X) → slice_get xs i ≡ Some x → LacksTriple terms (f x) → LacksSome terms (map f xs)
some_lacks terms f xs i x at h = (h.0, h.1, any_at (has_term term_eq h.0) (map f xs) i (f x) (get_map f xs i x at) h.2)

pub patterns_more : (terms : List Term) (P : List (TriplePattern Term)) (N : List (TriplePattern ℕ)) (t : TriplePattern Term) (n : TriplePattern ℕ) → ArePatternsOf terms P N → IsPatternOf terms t n → ArePatternsOf terms (P ++ t ∷ []) (N ++ n ∷ [])
patterns_more terms P N t n h k = (
  map-append (read_pattern (term_at terms)) N (n ∷ []) ∙ (λ i. h.0 i ++ k.0 i ∷ []),
  Each-append (EachOfPattern (λ x. x < length terms)) N (n ∷ []) h.1 (k.1, tt),
)

pub none_lacks : {V : Type 0} (Q : Type 0) (R : V → Type 0) (o : Option V) → ((v : V) → o ≡ Some v → ⊥) → MatchOption o Q R → Q
none_lacks Q R None n h = h
none_lacks Q R (Some v) n h = absurd (n v refl)
