-- Parts by lines that have quads in common: each solution of the whole is one of a part, and each of a part is one of the whole.
use Rattle.std.proofs.Common.{◌≡◌, ℕ, Bool, true, false, cond, not, ◌&&◌, ◌||◌, List, [], ◌∷◌, ◌++◌, filter, flat_map, None, Decides, refl, sym, ap, ◌∙◌, ⊎_elim, append-nil}
use Rattle.std.specs.Cmp.{both_ways}
use Rattle.std.specs.List.{list_any}
use Rattle.std.specs.Option.{option_eq}
use Rattle.std.proofs.lemmas.Bool.{false≢true, and_parts, or_cases}
use Rattle.std.proofs.lemmas.List.Folds.{list_any-append}
use Rattle.std.proofs.lemmas.List.Sorted.{list_any-IsPermutation}
use Rattle.rdf_core.specs.declared.term.Term.{Term}
use Rattle.rdf_core.specs.QuadParts.{QuadParts}
use Rattle.rdf_core.proofs.TermLaws.{term_eq, term_decides}
use Rattle.algebra_model.specs.Algebra.{Algebra, is_within}
use Rattle.algebra_model.specs.Bag.{IsSameSet}
use Rattle.algebra_model.specs.Bgp.{same_triple_by}
use Rattle.algebra_model.specs.Dataset.{triple_of}
use Rattle.algebra_model.specs.Eval.{eval}
use Rattle.algebra_model.specs.Pieces.{joined}
use Rattle.algebra_model.specs.Renaming.{Each}
use Rattle.algebra_model.specs.Solution.{Solution}
use Rattle.algebra_model.proofs.EvalLaws.{eval-alike, eval-IsSameSet}
use Rattle.algebra_model.proofs.SetLaws.{AreAlike}
use Rattle.algebra_model.proofs.TestLaws.{option_decides}
use Rattle.query_split.specs.Condition.{Key, is_apart}
use Rattle.query_split.specs.Parts.{NoneMeets}
use Rattle.query_split.specs.declared.split.Split.TheVariants as by
use Rattle.query_split.proofs.OperatorSplits.{Each-map}
use Rattle.query_split.proofs.PatternSplits.{triple_decides}
use Rattle.query_split.proofs.SplitLaws.{eval-split}

-- ---- quads

-- two quads are the same
abbrev is_quad : QuadParts → QuadParts → Bool
is_quad q r = same_triple_by term_eq (triple_of q) (triple_of r) && option_eq term_eq q.g r.g

quad_decides : (q r : QuadParts) → Decides (is_quad q r) (q ≡ r)
quad_decides q r = (there, back)
  where
    there : is_quad q r ≡ true → q ≡ r
    there e =
        let a = and_parts (same_triple_by term_eq (triple_of q) (triple_of r)) (option_eq term_eq q.g r.g) e in
        let t = (triple_decides (triple_of q) (triple_of r)).0 a.0 in
        let g = (option_decides term_eq term_decides q.g r.g).0 a.1 in
        λ i. record { s = (t i).s; p = (t i).p; o = (t i).o; g = g i }

    back : q ≡ r → is_quad q r ≡ true
    back e =
        (λ i. (triple_decides (triple_of q) (triple_of r)).1 (ap triple_of e) i && (option_decides term_eq term_decides q.g r.g).1 (ap (λ (x : QuadParts). x.g) e) i)

neither : (a b : Bool) → (a || b) ≡ false → (a ≡ false) × (b ≡ false)
neither true b e = absurd (false≢true (sym e))
neither false b e = (refl, e)

-- the quads of D that C does not have
abbrev others : List QuadParts → List QuadParts → List QuadParts
others C D = filter (λ q. not (list_any (is_quad q) C)) D

-- a quad that C does not have
abbrev IsNew : List QuadParts → QuadParts → Type 0
IsNew C q = list_any (is_quad q) C ≡ false

others_new : (C D : List QuadParts) → Each (IsNew C) (others C D)
others_new C [] = tt
others_new C (q ∷ D) = one (list_any (is_quad q) C) refl (others_new C D)
  where
    one : (b : Bool) → list_any (is_quad q) C ≡ b → Each (IsNew C) (others C D) → Each (IsNew C) (cond (not b) (q ∷ others C D) (others C D))
    one true e h = h
    one false e h = (e, h)

new_apart : (C E : List QuadParts) → Each (IsNew C) E → NoneMeets (λ q r. q ≡ r) C E
new_apart [] E h = tt
new_apart (q ∷ C) E h = (
  Each-map (λ r e same. false≢true (sym (neither (is_quad r q) (list_any (is_quad r) C) e).0 ∙ (quad_decides r q).1 (sym same))) E h,
  new_apart C E (Each-map (λ r e. (neither (is_quad r q) (list_any (is_quad r) C) e).1) E h),
)

-- ---- lists of quads within others

-- a test that some quad of C passes is passed by some quad of D
abbrev IsInside : List QuadParts → List QuadParts → Type 0
IsInside C D = (p : QuadParts → Bool) → list_any p C ≡ true → list_any p D ≡ true

right_true : (a b : Bool) → b ≡ true → (a || b) ≡ true
right_true true b e = refl
right_true false b e = e

left_true : (a b : Bool) → a ≡ true → (a || b) ≡ true
left_true a b e = ap (λ c. c || b) e

others_inside : (C D : List QuadParts) → IsInside (others C D) D
others_inside C [] p e = e
others_inside C (q ∷ D) p e = one (list_any (is_quad q) C) e (others_inside C D p)
  where
    one : (b : Bool) → list_any p (cond (not b) (q ∷ others C D) (others C D)) ≡ true → (list_any p (others C D) ≡ true → list_any p D ≡ true) → (p q || list_any p D) ≡ true
    one true f h = right_true (p q) (list_any p D) (h f)
    one false f h =
        ⊎_elim
        (λ (g : p q ≡ true). left_true (p q) (list_any p D) g)
        (λ (g : list_any p (others C D) ≡ true). right_true (p q) (list_any p D) (h g))
        (or_cases (p q) (list_any p (others C D)) f)

-- a test of a quad that C has
has_quad : (p : QuadParts → Bool) (q : QuadParts) (C : List QuadParts) → list_any (is_quad q) C ≡ true → p q ≡ true → list_any p C ≡ true
has_quad p q [] e h = absurd (false≢true e)
has_quad p q (r ∷ C) e h =
    let more = λ (f : list_any (is_quad q) C ≡ true). has_quad p q C f h in
    ⊎_elim
    (λ (f : is_quad q r ≡ true). left_true (p r) (list_any p C) (ap p (sym ((quad_decides q r).0 f)) ∙ h))
    (λ (f : list_any (is_quad q) C ≡ true). right_true (p r) (list_any p C) (more f))
    (or_cases (is_quad q r) (list_any (is_quad q) C) e)

-- C and D have the quads of C and the others of D
with_others : (C D : List QuadParts) → AreAlike (C ++ D) (C ++ others C D)
with_others C D p = list_any-append p C D ∙ rest D ∙ sym (list_any-append p C (others C D))
  where
    known : (a b c : Bool) → (b ≡ true → a ≡ true) → (a || (b || c)) ≡ (a || c)
    known true b c h = refl
    known false true c h = absurd (false≢true (h refl))
    known false false c h = refl

    new : (a b c d : Bool) → (a || c) ≡ (a || d) → (a || (b || c)) ≡ (a || (b || d))
    new true b c d h = refl
    new false b c d h = ap (λ e. b || e) h

    rest : (E : List QuadParts) → (list_any p C || list_any p E) ≡ (list_any p C || list_any p (others C E))
    rest [] = refl
    rest (q ∷ E) = one (list_any (is_quad q) C) refl (rest E)
      where
        one : (b : Bool) → list_any (is_quad q) C ≡ b → (list_any p C || list_any p E) ≡ (list_any p C || list_any p (others C E))
            → (list_any p C || (p q || list_any p E)) ≡ (list_any p C || list_any p (cond (not b) (q ∷ others C E) (others C E)))
        one true e h = known (list_any p C) (p q) (list_any p E) (has_quad p q C e) ∙ h
        one false e h = new (list_any p C) (p q) (list_any p E) (list_any p (others C E)) h

inside_alike : (C D : List QuadParts) → IsInside C D → AreAlike D (C ++ D)
inside_alike C D h p = sym (list_any-append p C D ∙ absorbed (list_any p C) (list_any p D) (h p))
  where
    absorbed : (a b : Bool) → (a ≡ true → b ≡ true) → (a || b) ≡ b
    absorbed true b h = sym (h refl)
    absorbed false b h = refl

inside_left : (C D : List QuadParts) → IsInside C (C ++ D)
inside_left C D p e = list_any-append p C D ∙ left_true (list_any p C) (list_any p D) e

inside_right : (C D : List QuadParts) → IsInside D (C ++ D)
inside_right C D p e = list_any-append p C D ∙ right_true (list_any p C) (list_any p D) e

-- ---- solutions

module _ (w : ℕ) (key : Key) (A : Algebra) (inside : is_within w A ≡ true) (apart : is_apart by.Lines key A ≡ true) where
  -- some solution over the dataset passes the test
  abbrev some : (Solution Term → Bool) → List QuadParts → Bool
  some p D = list_any p (eval w D None A)

  some_alike : (D E : List QuadParts) → AreAlike D E → (p : Solution Term → Bool) → some p D ≡ some p E
  some_alike D E h p = list_any-IsPermutation p (eval w D None A) (eval w E None A) (eval-alike D E h w None A)

  -- the solutions over two lists, by those over the first and over the others of the second
  some-append : (C D : List QuadParts) (p : Solution Term → Bool) → some p (C ++ D) ≡ (some p C || some p (others C D))
  some-append C D p =
      let E = others C D in
      some_alike (C ++ D) (C ++ E) (with_others C D) p
      ∙ list_any-IsPermutation p (eval w (C ++ E) None A) (eval w C None A ++ eval w E None A)
      (eval-split by.Lines w key C E (new_apart C E (others_new C D)) A None (λ e. absurd (false≢true e)) inside apart)
      ∙ list_any-append p (eval w C None A) (eval w E None A)

  -- a solution over some quads is one over more quads
  some_more : (C D : List QuadParts) → IsInside C D → (p : Solution Term → Bool) → some p C ≡ true → some p D ≡ true
  some_more C D h p e = some_alike D (C ++ D) (inside_alike C D h) p ∙ some-append C D p ∙ left_true (some p C) (some p (others C D)) e

  some_both : (C D : List QuadParts) (p : Solution Term → Bool) → some p (C ++ D) ≡ (some p C || some p D)
  some_both C D p =
      let E = others C D in
      both_ways (some p (C ++ D)) (some p C || some p D)
      (λ e. ⊎_elim
      (λ (f : some p C ≡ true). left_true (some p C) (some p D) f)
      (λ (f : some p E ≡ true). right_true (some p C) (some p D) (some_more E D (others_inside C D) p f))
      (or_cases (some p C) (some p E) (sym (some-append C D p) ∙ e)))
      (λ e. ⊎_elim
      (λ (f : some p C ≡ true). some_more C (C ++ D) (inside_left C D) p f)
      (λ (f : some p D ≡ true). some_more D (C ++ D) (inside_right C D) p f)
      (or_cases (some p C) (some p D) e))

  some_joined : (part : List QuadParts) (parts : List (List QuadParts)) → AreAlike (eval w (joined (part ∷ parts)) None A) (flat_map (λ d. eval w d None A) (part ∷ parts))
  some_joined part [] p = ap (some p) (append-nil part) ∙ ap (list_any p) (sym (append-nil (eval w part None A)))
  some_joined part (d ∷ parts) p =
      some_both part (joined (d ∷ parts)) p
      ∙ ap (λ b. some p part || b) (some_joined d parts p)
      ∙ sym (list_any-append p (eval w part None A) (flat_map (λ d. eval w d None A) (d ∷ parts)))

  -- a solution over a dataset is one over a part, and the reverse
  pub solutions_alike : (D part : List QuadParts) (parts : List (List QuadParts)) → IsSameSet D (joined (part ∷ parts))
      → AreAlike (eval w D None A) (flat_map (λ d. eval w d None A) (part ∷ parts))
  solutions_alike D part parts same p =
      list_any-IsPermutation p (eval w D None A) (eval w (joined (part ∷ parts)) None A) (eval-IsSameSet w D (joined (part ∷ parts)) same None A)
      ∙ some_joined part parts p
