-- The numbers of statements.
use Rattle.std.proofs.Common.{◌≡◌, ℕ, ◌+◌, ◌<◌, true, List, [], ◌∷◌, ◌++◌, length, get_or, take, Option, None, Some, slice_get, refl, sym, ap, ◌∙◌, subst}
use Rattle.std.specs.Borrow.{Bor}
use Rattle.std.specs.Prelude.{⊤, option_copied}
use Rattle.std.proofs.lemmas.List.{append-nil, map-append, take_more}
use Rattle.std.proofs.lemmas.List.Concat.{flat_map-append}
use Rattle.std.proofs.lemmas.List.Elements.{All-nil, All-cons, All-append}
use Rattle.indexmap.specs.IndexSet.{insert_key, insert_all}
use Rattle.rdf_core.specs.declared.term.Term.{Term}
use Rattle.rdf_core.specs.QuadParts.{QuadParts}
use Rattle.rdf_core.specs.QuadFacts.{is_node, is_iri}
use Rattle.rdf_core.proofs.TermLaws.{term_eq}
use Rattle.nquads_core.specs.Splitting.{DenoteAll, DenotesGraph, DenotesQuad}
use Rattle.nquads_core.specs.declared.slices.RawStatement.{RawStatement}
use Rattle.dict_core.specs.declared.num_quad.NumQuad.{NumQuad}
use Rattle.dict_core.specs.NumQuad.{quad_at, IsBelow}
use Rattle.dict_core.specs.Appearances.{terms_of, terms_of_quad}
use Rattle.dict_core.proofs.InsertLaws.{Keeps, get-insert_all, insert_all-append}
use Rattle.dict_core.proofs.MergingSteps.{quad_named, quad_unnamed}
use Rattle.dict_core.proofs.NumberingLaws.{quads-kept}
use Rattle.text_pieces.specs.Forms.{AreFormsOf}
use Rattle.text_pieces.specs.Pieces.{IsNumberedFrom}
use Rattle.text_pieces.specs.Slices.{AreNumberedStatements, AreNumbersOfAll, AreNumbersOfQuad, IsNumberOf, IsQuadNumber, IsTermNumber}

-- ---- one statement

module _ (raw : RawStatement) (d0 d1 d2 d3 : List Term) (s p o : ℕ) (subject : IsTermNumber (λ t. is_node t ≡ true) d0 d1 raw.subject.now s)
    (predicate : IsTermNumber (λ t. is_iri t ≡ true) d1 d2 raw.predicate.now p) (object : IsTermNumber (λ _. ⊤) d2 d3 raw.object.now o) where
  statement_unnamed : raw.graph ≡ None → IsQuadNumber d0 d3 raw (record { g = None; s = s; p = p; o = o })
  statement_unnamed none =
      let quad : QuadParts = record { s = subject.term; p = predicate.term; o = object.term; g = None } in
      let q = quad_unnamed d1 d2 d3 subject.term predicate.term object.term s p o subject.at predicate.grown predicate.at object.grown object.at None refl in
      record {
        quad = quad;
        denotes = record {
          subject = subject.denotes;
          predicate = predicate.denotes;
          object = object.denotes;
          graph = subst (λ (g : Option (Bor (List ℕ))). DenotesGraph (option_copied g) None) (sym none) tt;
          node = subject.allowed;
          iri = predicate.allowed;
          graph_name = refl;
        };
        grown = object.grown ∙ ap (λ (d : List Term). insert_key term_eq d object.term) (predicate.grown ∙ ap (λ (d : List Term). insert_key term_eq d predicate.term) subject.grown);
        below = q.0;
        reads = q.1;
      }

  statement_named : (d4 : List Term) (g : ℕ) (name : Bor (List ℕ)) (graph : IsTermNumber (λ t. is_node t ≡ true) d3 d4 name.now g)
      → raw.graph ≡ Some name → IsQuadNumber d0 d4 raw (record { g = Some g; s = s; p = p; o = o })
  statement_named d4 g name graph some =
      let quad : QuadParts = record { s = subject.term; p = predicate.term; o = object.term; g = Some graph.term } in
      let q = quad_named d1 d2 d3 subject.term predicate.term object.term s p o subject.at predicate.grown predicate.at object.grown object.at
      d4 graph.term g graph.grown graph.at (Some graph.term) refl in
      record {
        quad = quad;
        denotes = record {
          subject = subject.denotes;
          predicate = predicate.denotes;
          object = object.denotes;
          graph = subst (λ (x : Option (Bor (List ℕ))). DenotesGraph (option_copied x) (Some graph.term)) (sym some) graph.denotes;
          node = subject.allowed;
          iri = predicate.allowed;
          graph_name = graph.allowed;
        };
        grown = graph.grown ∙ ap (λ (d : List Term). insert_key term_eq d graph.term)
            (object.grown ∙ ap (λ (d : List Term). insert_key term_eq d object.term) (predicate.grown ∙ ap (λ (d : List Term). insert_key term_eq d predicate.term) subject.grown));
        below = q.0;
        reads = q.1;
      }

module _ (dict t0 t1 t2 t3 : List (List ℕ)) (raw : RawStatement) (s p o : ℕ) (subject : IsNumberOf (λ t. is_node t ≡ true) dict t0 t1 raw.subject.now s)
    (predicate : IsNumberOf (λ t. is_iri t ≡ true) dict t1 t2 raw.predicate.now p) (object : IsNumberOf (λ _. ⊤) dict t2 t3 raw.object.now o) where
  pub numbers_unnamed : raw.graph ≡ None → AreNumbersOfQuad dict t0 t3 raw (record { g = None; s = s; p = p; o = o })
  numbers_unnamed none = λ earlier forms.
      let a = subject.terms earlier forms in
      let b = predicate.terms a.0 a.1 in
      let c = object.terms b.0 b.1 in
      (c.0, c.1, statement_unnamed raw earlier a.0 b.0 c.0 s p o a.2 b.2 c.2 none)

  pub numbers_named : (t4 : List (List ℕ)) (g : ℕ) (name : Bor (List ℕ)) (graph : IsNumberOf (λ t. is_node t ≡ true) dict t3 t4 name.now g)
      → raw.graph ≡ Some name → AreNumbersOfQuad dict t0 t4 raw (record { g = Some g; s = s; p = p; o = o })
  numbers_named t4 g name graph some = λ earlier forms.
      let a = subject.terms earlier forms in
      let b = predicate.terms a.0 a.1 in
      let c = object.terms b.0 b.1 in
      let d = graph.terms c.0 c.1 in
      (d.0, d.1, statement_named raw earlier a.0 b.0 c.0 s p o a.2 b.2 c.2 d.0 g name d.2 some)

-- ---- all statements

pub denote-more : (raws : List RawStatement) (quads : List QuadParts) (raw : RawStatement) (q : QuadParts) → DenoteAll raws quads → DenotesQuad raw q
    → DenoteAll (raws ++ raw ∷ []) (quads ++ q ∷ [])
denote-more [] quads raw q h k = (q, [], ap (λ (l : List QuadParts). l ++ q ∷ []) h, k, refl)
denote-more (r ∷ raws) quads raw q h k = (h.0, h.1 ++ q ∷ [], ap (λ (l : List QuadParts). l ++ q ∷ []) h.2, h.3, denote-more raws h.1 raw q h.4 k)

-- one more quad
pub numbered_more : (dict : List Term) (done : List QuadParts) (q : QuadParts) (all grown : List Term) (numbers : List NumQuad) (n : NumQuad)
    → IsNumberedFrom dict done all numbers → grown ≡ insert_all term_eq all (terms_of_quad q) → IsBelow (length grown) n → quad_at grown n ≡ q
    → IsNumberedFrom dict (done ++ q ∷ []) grown (numbers ++ n ∷ [])
numbered_more dict done q all grown numbers n h grown_is below reads =
    let keeps : Keeps all grown = λ k t e. subst (λ l. slice_get l k ≡ Some t) (sym grown_is) (get-insert_all all (terms_of_quad q) k t e) in
    let before = quads-kept all grown keeps numbers h.below in
    let terms : terms_of (done ++ q ∷ []) ≡ terms_of done ++ terms_of_quad q =
    flat_map-append terms_of_quad done (q ∷ []) ∙ ap (λ l. terms_of done ++ l) (append-nil (terms_of_quad q)) in record {
      terms = grown_is ∙ ap (λ l. insert_all term_eq l (terms_of_quad q)) h.terms ∙ sym (insert_all-append dict (terms_of done) (terms_of_quad q)) ∙ ap (insert_all term_eq dict) (sym terms);
      below = All-append (IsBelow (length grown)) numbers (n ∷ []) before.0 (All-cons (IsBelow (length grown)) n [] below (All-nil (IsBelow (length grown))));
      reads = map-append (quad_at grown) numbers (n ∷ []) ∙ (λ i. (before.1 ∙ h.reads) i ++ reads i ∷ []);
    }

pub statements_none : (dict new : List (List ℕ)) (raws : List RawStatement) → new ≡ [] → AreNumbersOfAll dict new (take 0 raws) []
statements_none dict new raws none terms forms = (
  terms,
  subst (AreFormsOf terms) (sym (ap (λ l. dict ++ l) none ∙ append-nil dict)) forms,
  record { quads = []; denote = refl; numbered = record { terms = refl; below = All-nil (IsBelow (length terms)); reads = refl } },
)

pub statements_more : (dict old new : List (List ℕ)) (raws : List RawStatement) (i : ℕ) (numbers more : List NumQuad) (d : RawStatement) (n : NumQuad) → i < length raws
    → AreNumbersOfAll dict old (take i raws) numbers → AreNumbersOfQuad dict old new (get_or raws i d) n → more ≡ numbers ++ n ∷ []
    → AreNumbersOfAll dict new (take (i + 1) raws) more
statements_more dict old new raws i numbers more d n low was one pushed terms forms =
    let a = was terms forms in
    let b = one a.0 a.1 in
    let raw = get_or raws i d in (
      b.0,
      b.1,
      subst (λ l. AreNumberedStatements terms l b.0 more) (sym (take_more raws i d low)) (record {
        quads = a.2.quads ++ b.2.quad ∷ [];
        denote = denote-more (take i raws) a.2.quads raw b.2.quad a.2.denote b.2.denotes;
        numbered = subst (IsNumberedFrom terms (a.2.quads ++ b.2.quad ∷ []) b.0) (sym pushed)
            (numbered_more terms a.2.quads b.2.quad a.0 b.0 numbers n a.2.numbered b.2.grown b.2.below b.2.reads);
      }),
    )
