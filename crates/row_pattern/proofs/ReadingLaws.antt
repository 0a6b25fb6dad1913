-- The rows of a pattern at numbers, read through a dictionary, are its solutions at terms.
use Rattle.std.proofs.Common.{◌≡◌, ℕ, ◌+◌, ◌<◌, Bool, true, false, cond, List, [], ◌∷◌, length, map, filter, Option, None, Some, nat_eq, refl, sym, ap, ◌∙◌, subst}
use Rattle.std.specs.Option.{option_eq, option_map, ForSome}
use Rattle.std.proofs.lemmas.Bool.Decides.{Decides-eqb}
use Rattle.std.proofs.lemmas.List.Elements.{All-head, All-tail}
use Rattle.std.proofs.lemmas.List.Sorted.{IsPermutation-sym}
use Rattle.rdf_core.specs.declared.term.Term.{Term}
use Rattle.rdf_core.specs.QuadParts.{QuadParts}
use Rattle.rdf_core.proofs.TermLaws.{term_eq, term_decides}
use Rattle.algebra_model.specs.Bag.{IsSameBag, IsWithoutRepeats}
use Rattle.algebra_model.specs.Solution.{Solution}
use Rattle.algebra_model.specs.Bgp.{Triple, TriplePattern, bgp}
use Rattle.algebra_model.specs.Dataset as dataset
use Rattle.algebra_model.specs.Laws.{IsReading, AreInRange, read}
use Rattle.algebra_model.specs.Renaming.{Each, EachBound, EachOfTriple, EachOfPattern, read_triple, read_pattern}
use Rattle.algebra_model.specs.Solve as solve
use Rattle.algebra_model.proofs.BgpReadingLaws.{bgp-bound}
use Rattle.algebra_model.proofs.NumberLaws.{equal_when_read}
use Rattle.algebra_model.proofs.RangeLaws.{Each-IsSameBag}
use Rattle.algebra_model.proofs.StepLaws.{pattern-step}
use Rattle.dict_core.specs.declared.num_quad.NumQuad.{NumQuad}
use Rattle.dict_core.specs.Dict.{term_at}
use Rattle.dict_core.specs.NumQuad.{quad_at, quads_at, IsBelow, AreBelow}
use Rattle.dict_core.proofs.NumQuadLaws.{quad_eq}
use Rattle.row_pattern.specs.Numbered.{triple_of, is_of, triples_of}
use Rattle.row_pattern.proofs.ScanLaws.{triples-once}

module _ (dict : List Term) (apart : IsReading (length dict) (term_at dict)) where
  name-read : (x y : Option ℕ) → ForSome x (λ n. n < length dict) → ForSome y (λ n. n < length dict) → option_eq term_eq (option_map (term_at dict) x) (option_map (term_at dict) y) ≡ option_eq nat_eq x y
  name-read None None h k = refl
  name-read None (Some b) h k = refl
  name-read (Some a) None h k = refl
  name-read (Some a) (Some b) h k = equal_when_read (length dict) (term_at dict) apart a b (h a refl) (k b refl)

  -- the triples of a graph, read, are the triples of the graph of the quads read
  pub triples-read : (g : Option ℕ) (index : List NumQuad) → ForSome g (λ n. n < length dict) → AreBelow (length dict) index
      → map (read_triple (term_at dict)) (triples_of g index) ≡ dataset.graph (quads_at dict index) (option_map (term_at dict) g)
  triples-read g [] k h = refl
  triples-read g (q ∷ index) k h =
      by (is_of g q) (triples-read g index k (All-tail (IsBelow (length dict)) q index h))
      ∙ ap (λ b. map dataset.triple_of (cond b (quad_at dict q ∷ F) F)) (sym (name-read q.g g (All-head (IsBelow (length dict)) q index h).3 k))
    where
      F : List QuadParts
      F = filter (λ p. option_eq term_eq p.g (option_map (term_at dict) g)) (quads_at dict index)

      by : (b : Bool) → map (read_triple (term_at dict)) (map triple_of (filter (is_of g) index)) ≡ map dataset.triple_of F
          → map (read_triple (term_at dict)) (map triple_of (cond b (q ∷ filter (is_of g) index) (filter (is_of g) index))) ≡ map dataset.triple_of (cond b (quad_at dict q ∷ F) F)
      by true e = ap (λ l. read_triple (term_at dict) (triple_of q) ∷ l) e
      by false e = e

  -- their numbers are numbers of terms
  pub triples-below : (g : Option ℕ) (index : List NumQuad) → AreBelow (length dict) index → Each (EachOfTriple (λ n. n < length dict)) (triples_of g index)
  triples-below g [] h = tt
  triples-below g (q ∷ index) h =
      by (is_of g q) (triples-below g index (All-tail (IsBelow (length dict)) q index h))
    where
      by : (b : Bool) → Each (EachOfTriple (λ n. n < length dict)) (map triple_of (filter (is_of g) index))
          → Each (EachOfTriple (λ n. n < length dict)) (map triple_of (cond b (q ∷ filter (is_of g) index) (filter (is_of g) index)))
      by true e = let here = All-head (IsBelow (length dict)) q index h in ((here.0, here.1, here.2), e)
      by false e = e

pub rows-read : (dict : List Term) (index : List NumQuad) (g : Option ℕ) → IsReading (length dict) (term_at dict)
    → IsWithoutRepeats quad_eq index → AreBelow (length dict) index → ForSome g (λ x. x < length dict)
    → (w l : ℕ) (P : List (TriplePattern ℕ)) → solve.AreBelow w (w + l) P → Each (EachOfPattern (λ x. x < length dict)) P
    → (rows : List (Solution ℕ)) → IsSameBag rows (bgp nat_eq w l P (triples_of g index))
    → IsSameBag (read (term_at dict) rows) (bgp term_eq w l (map (read_pattern (term_at dict)) P) (dataset.graph (quads_at dict index) (option_map (term_at dict) g))) × AreInRange (length dict) rows
rows-read dict index g apart once below named w l P inside constants rows h =
    let In = λ (x : ℕ). x < length dict in
    let f = term_at dict in
    let G = triples_of g index in
    let one = equal_when_read (length dict) f apart in
    let single = triples-once g index once in
    let all = triples-below dict apart g index below in (
      subst (λ (T : List (Triple Term)). IsSameBag (read f rows) (bgp term_eq w l (map (read_pattern f) P) T)) (triples-read dict apart g index named below)
          (pattern-step nat_eq term_eq In f one term_decides Decides-eqb w l P G single inside constants all rows h),
      Each-IsSameBag (EachBound In) (bgp nat_eq w l P G) rows (IsPermutation-sym rows (bgp nat_eq w l P G) h)
          (bgp-bound nat_eq term_eq In f one Decides-eqb w l P G single inside all),
    )
