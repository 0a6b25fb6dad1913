-- Numbered quads, read through a dictionary that grows.
use Rattle.std.proofs.Common.{◌≡◌, ℕ, zero, suc, ◌<◌, List, [], ◌∷◌, ◌++◌, length, Option, None, Some, map, get_or, slice_get, refl, sym, ap, ◌∙◌, subst, arith}
use Rattle.std.proofs.lemmas.Option.{slice_get_within, slice_get-get_or, get_or_from_slice_get}
use Rattle.std.proofs.lemmas.List.{map-append, append-nil}
use Rattle.std.proofs.lemmas.List.Elements.{All-nil, All-cons, All-head, All-tail, All-append}
use Rattle.std.proofs.lemmas.List.Concat.{flat_map-append}
use Rattle.std.specs.Option.{option_map, ForSome}
use Rattle.indexmap.specs.IndexSet.{insert_all}
use Rattle.rdf_core.specs.declared.term.Term.{Term}
use Rattle.rdf_core.specs.declared.term.Term.TheVariants.{Blank}
use Rattle.rdf_core.specs.QuadParts.{QuadParts}
use Rattle.rdf_core.proofs.TermLaws.{term_eq}
use Rattle.dict_core.specs.declared.num_quad.NumQuad.{NumQuad}
use Rattle.dict_core.specs.Dict.{term_at, AreNumbersOf}
use Rattle.dict_core.specs.NumQuad.{quad_at, quads_at, IsBelow, AreBelow}
use Rattle.dict_core.specs.Appearances.{terms_of_quad, terms_of, first_appearances}
use Rattle.dict_core.specs.Numbered.{IsNumbered, renamed}
use Rattle.dict_core.proofs.InsertLaws.{Keeps, get-insert_all}
use Rattle.dict_core.proofs.AppearanceLaws.{insert_all-appearances, appearances_again, appearances_front}

-- a number that is the place of a term
pub number_reads : (dict : List Term) (n : ℕ) (t : Term) → slice_get dict n ≡ Some t → (n < length dict) × (term_at dict n ≡ t)
number_reads dict n t h = (slice_get_within dict n t h, get_or_from_slice_get dict n t (Blank []) h)

pub get-below : (dict : List Term) (n : ℕ) → n < length dict → slice_get dict n ≡ Some (term_at dict n)
get-below dict n below = slice_get-get_or dict n (Blank []) below

module _ (own dict : List Term) (f : ℕ → ℕ) (keeps : (n : ℕ) → n < length own → slice_get dict (f n) ≡ Some (term_at own n)) where
  -- each number mapped
  abbrev mapped : NumQuad → NumQuad
  mapped q = record { g = option_map f q.g; s = f q.s; p = f q.p; o = f q.o }

  number-mapped : (n : ℕ) → n < length own → (f n < length dict) × (term_at dict (f n) ≡ term_at own n)
  number-mapped n below = number_reads dict (f n) (term_at own n) (keeps n below)

  graph-mapped : (g : Option ℕ) → ForSome g (λ n. n < length own) → ForSome (option_map f g) (λ n. n < length dict) × (option_map (term_at dict) (option_map f g) ≡ option_map (term_at own) g)
  graph-mapped None below = ((λ n e. cc), refl)
  graph-mapped (Some m) below =
      let r = number-mapped m (below m refl) in
      ((λ n e. let same : f m ≡ n = cc in subst (λ k. k < length dict) same r.0), ap Some r.1)

  quad-mapped : (q : NumQuad) → IsBelow (length own) q → IsBelow (length dict) (mapped q) × (quad_at dict (mapped q) ≡ quad_at own q)
  quad-mapped q below =
      let s = number-mapped q.s below.0 in
      let p = number-mapped q.p below.1 in
      let o = number-mapped q.o below.2 in
      let g = graph-mapped q.g below.3 in
      ((s.0, p.0, o.0, g.0), λ i. record { s = s.1 i; p = p.1 i; o = o.1 i; g = g.1 i })

  pub quads-mapped : (qs : List NumQuad) → AreBelow (length own) qs → AreBelow (length dict) (map mapped qs) × (quads_at dict (map mapped qs) ≡ quads_at own qs)
  quads-mapped [] below = (All-nil (IsBelow (length dict)), refl)
  quads-mapped (q ∷ qs) below =
      let one = quad-mapped q (All-head (IsBelow (length own)) q qs below) in
      let rest = quads-mapped qs (All-tail (IsBelow (length own)) q qs below) in
      (All-cons (IsBelow (length dict)) (mapped q) (map mapped qs) one.0 rest.0, λ i. one.1 i ∷ rest.1 i)

module _ (earlier later : List Term) (keeps : Keeps earlier later) where
  number-kept : (n : ℕ) → n < length earlier → (n < length later) × (term_at later n ≡ term_at earlier n)
  number-kept n below = number_reads later n (term_at earlier n) (keeps n (term_at earlier n) (get-below earlier n below))

  graph-kept : (g : Option ℕ) → ForSome g (λ n. n < length earlier) → ForSome g (λ n. n < length later) × (option_map (term_at later) g ≡ option_map (term_at earlier) g)
  graph-kept None below = ((λ n e. cc), refl)
  graph-kept (Some m) below = ((λ n e. (number-kept n (below n e)).0), ap Some (number-kept m (below m refl)).1)

  quad-kept : (q : NumQuad) → IsBelow (length earlier) q → IsBelow (length later) q × (quad_at later q ≡ quad_at earlier q)
  quad-kept q below =
      let s = number-kept q.s below.0 in
      let p = number-kept q.p below.1 in
      let o = number-kept q.o below.2 in
      let g = graph-kept q.g below.3 in
      ((s.0, p.0, o.0, g.0), λ i. record { s = s.1 i; p = p.1 i; o = o.1 i; g = g.1 i })

  -- a dictionary that grows reads the quads as before
  pub quads-kept : (qs : List NumQuad) → AreBelow (length earlier) qs → AreBelow (length later) qs × (quads_at later qs ≡ quads_at earlier qs)
  quads-kept [] below = (All-nil (IsBelow (length later)), refl)
  quads-kept (q ∷ qs) below =
      let one = quad-kept q (All-head (IsBelow (length earlier)) q qs below) in
      let rest = quads-kept qs (All-tail (IsBelow (length earlier)) q qs below) in
      (All-cons (IsBelow (length later)) q qs one.0 rest.0, λ i. one.1 i ∷ rest.1 i)

-- the number of the n-th term
named : (dict own : List Term) (numbers : List ℕ) → AreNumbersOf dict own numbers → (n : ℕ) → n < length own → slice_get dict (get_or numbers n 0) ≡ Some (term_at own n)
named dict [] numbers h n below = absurd (omega arith)
named dict (t ∷ own) [] h n below = absurd h
named dict (t ∷ own) (m ∷ numbers) h zero below = h.0
named dict (t ∷ own) (m ∷ numbers) h (suc n) below = named dict own numbers h.1 n (omega arith)

-- quads that are appended: those before read as before, and the new ones read as they are to
pub numbered-append : (front back : List QuadParts) (dict merged : List Term) (numbered mine : List NumQuad)
    → IsNumbered front dict numbered → Keeps dict merged → merged ≡ first_appearances (terms_of (front ++ back))
    → AreBelow (length merged) mine → quads_at merged mine ≡ back
    → IsNumbered (front ++ back) merged (numbered ++ mine)
numbered-append front back dict merged numbered mine h keeps terms below reads =
    let before = quads-kept dict merged keeps numbered h.1 in (
      terms,
      All-append (IsBelow (length merged)) numbered mine before.0 below,
      map-append (quad_at merged) numbered mine ∙ (λ i. (before.1 ∙ h.2) i ++ reads i),
    )

-- the law 'absorbing keeps the numbering'
pub absorbed : (front back : List QuadParts) (dict own : List Term) (numbered mine : List NumQuad) (numbers : List ℕ)
    → IsNumbered front dict numbered → IsNumbered back own mine
    → AreNumbersOf (first_appearances (dict ++ own)) own numbers
    → IsNumbered (front ++ back) (first_appearances (dict ++ own)) (numbered ++ map (renamed numbers) mine)
absorbed front back dict own numbered mine numbers a b named_by =
    let merged = first_appearances (dict ++ own) in
    let moved = quads-mapped own merged (λ n. get_or numbers n 0) (named merged own numbers named_by) mine b.1 in
    let terms : merged ≡ first_appearances (terms_of (front ++ back)) =
    (λ i. first_appearances (a.0 i ++ b.0 i)) ∙ appearances_again (terms_of front) (terms_of back) ∙ ap first_appearances (sym (flat_map-append terms_of_quad front back)) in
    let grows : insert_all term_eq dict own ≡ merged =
    ap (λ l. insert_all term_eq l own) a.0 ∙ insert_all-appearances (terms_of front) own ∙ sym (ap (λ l. first_appearances (l ++ own)) a.0 ∙ appearances_front (terms_of front) own) in
    numbered-append front back dict merged numbered (map (renamed numbers) mine) a
    (λ n t h. subst (λ l. slice_get l n ≡ Some t) grows (get-insert_all dict own n t h))
    terms moved.0 (moved.1 ∙ b.2)

terms_of-more : (done : List QuadParts) (q : QuadParts) → terms_of (done ++ q ∷ []) ≡ terms_of done ++ terms_of_quad q
terms_of-more done q = flat_map-append terms_of_quad done (q ∷ []) ∙ ap (λ l. terms_of done ++ l) (append-nil (terms_of_quad q))

-- one more quad
pub numbered-more : (done : List QuadParts) (q : QuadParts) (dict grown : List Term) (numbered : List NumQuad) (n : NumQuad)
    → IsNumbered done dict numbered → grown ≡ insert_all term_eq dict (terms_of_quad q) → IsBelow (length grown) n → quad_at grown n ≡ q
    → IsNumbered (done ++ q ∷ []) grown (numbered ++ n ∷ [])
numbered-more done q dict grown numbered n h terms below reads =
    numbered-append done (q ∷ []) dict grown numbered (n ∷ []) h
    (λ k t e. subst (λ l. slice_get l k ≡ Some t) (sym terms) (get-insert_all dict (terms_of_quad q) k t e))
    (terms ∙ ap (λ l. insert_all term_eq l (terms_of_quad q)) h.0 ∙ insert_all-appearances (terms_of done) (terms_of_quad q) ∙ ap first_appearances (sym (terms_of-more done q)))
    (All-cons (IsBelow (length grown)) n [] below (All-nil (IsBelow (length grown))))
    (λ i. reads i ∷ [])
