-- Statements that may be left out.
use Rattle.std.proofs.Common.{◌≡◌, inr, ℕ, ◌+◌, ◌<◌, Bool, true, false, List, [], ◌∷◌, ◌++◌, length, get_or, take, Option, None, Some, Result, Ok, Err, refl, sym, ap, ◌∙◌, subst}
use Rattle.std.specs.Borrow.{Bor}
use Rattle.std.specs.Prelude.{⊤, IfOk, option_copied}
use Rattle.std.specs.Option.{option_map}
use Rattle.std.proofs.lemmas.List.{append-nil, take_more}
use Rattle.std.proofs.lemmas.Option.{same_Some}
use Rattle.rdf_core.specs.declared.term.Term.{Term}
use Rattle.rdf_core.specs.QuadParts.{QuadParts}
use Rattle.rdf_core.specs.QuadFacts.{is_graph_name, is_iri}
use Rattle.rdf_core.specs.Serialization.{serialization}
use Rattle.nquads_core.specs.Splitting.{DenoteAll, DenotesGraph, DenotesQuad}
use Rattle.nquads_core.specs.declared.slices.RawStatement.{RawStatement}
use Rattle.nquads_scan.specs.Canonical.{HasForm}
use Rattle.quad_filter.specs.declared.filter.QuadFilter.{QuadFilter}
use Rattle.quad_filter.specs.Filter.{keeps}
use Rattle.quad_filter.specs.Kept.{IsKept}
use Rattle.quad_filter.specs.Slices.{HasSlices}
use Rattle.quad_filter.proofs.KeptLaws.{kept_joins, list_is_kept}
use Rattle.text_pieces.specs.Relevance.{AreRelevant, IsFormOf, IsInForm, IsNodeForm, IsNodeFormIfAny, IsUnneeded}
use Rattle.text_pieces.proofs.StatementSteps.{denote-more}

-- ---- one slice

pub form_found : (raw : List ℕ) → HasForm raw raw → IsFormOf (λ _. ⊤) raw
form_found raw h = record { term = h.term; denotes = h.denotes; form = h.form; allowed = tt }

-- a form whose first byte shows that P holds of the term
pub form_of_kind : {E : Type 0} (P : Term → Type 0) (raw : List ℕ) (r : Result Bool E) → ((t : Term) → raw ≡ serialization t → P t)
    → IfOk r (λ holds. holds ≡ true → IsFormOf (λ _. ⊤) raw) → IfOk r (λ holds. holds ≡ true → IsFormOf P raw)
form_of_kind P raw (Ok holds) kind h = λ is.
    let f : IsFormOf (λ _. ⊤) raw = h is in
    record { term = f.term; denotes = f.denotes; form = f.form; allowed = kind f.term f.form }
form_of_kind P raw (Err fault) kind h = tt

-- ---- the slices of a statement

pub subject_form : (raw : RawStatement) → IsInForm raw → IsNodeForm raw.subject.now
subject_form raw h = record { term = h.quad.s; denotes = h.denotes.subject; form = h.slices.subject; allowed = h.denotes.node }

pub label_form : (raw : RawStatement) → IsInForm raw → IsNodeFormIfAny raw.graph
label_form raw h = by raw.graph h.quad.g h.denotes.graph h.slices.graph h.denotes.graph_name
  where
    by : (label : Option (Bor (List ℕ))) (name : Option Term) → DenotesGraph (option_copied label) name → option_copied label ≡ option_map serialization name → is_graph_name name ≡ true
        → IsNodeFormIfAny label
    by None name denotes slice allowed = tt
    by (Some b) None denotes slice allowed = absurd denotes
    by (Some b) (Some t) denotes slice allowed = record { term = t; denotes = denotes; form = same_Some b.now (serialization t) slice; allowed = allowed }

module _ (raw : RawStatement) (s : IsNodeForm raw.subject.now) (p : IsFormOf (λ t. is_iri t ≡ true) raw.predicate.now) (o : IsFormOf (λ _. ⊤) raw.object.now) where
  in_form_named : (name : Option Term) → DenotesGraph (option_copied raw.graph) name → option_copied raw.graph ≡ option_map serialization name → is_graph_name name ≡ true → IsInForm raw
  in_form_named name denotes slice allowed = record {
    quad = record { s = s.term; p = p.term; o = o.term; g = name };
    denotes = record {
      subject = s.denotes;
      predicate = p.denotes;
      object = o.denotes;
      graph = denotes;
      node = s.allowed;
      iri = p.allowed;
      graph_name = allowed;
    };
    slices = record { subject = s.form; predicate = p.form; object = o.form; graph = slice };
  }

  in_form_label : (label : Option (Bor (List ℕ))) → raw.graph ≡ label → IsNodeFormIfAny label → IsInForm raw
  in_form_label None is h =
      in_form_named None (subst (λ (g : Option (Bor (List ℕ))). DenotesGraph (option_copied g) None) (sym is) tt) (ap (λ (g : Option (Bor (List ℕ))). option_copied g) is) refl
  in_form_label (Some b) is h =
      in_form_named (Some h.term) (subst (λ (g : Option (Bor (List ℕ))). DenotesGraph (option_copied g) (Some h.term)) (sym is) h.denotes)
      (ap (λ (g : Option (Bor (List ℕ))). option_copied g) is ∙ ap Some h.form) h.allowed

  pub in_form : {E : Type 0} (r : Result Bool E) → IfOk r (λ holds. holds ≡ true → IsNodeFormIfAny raw.graph) → IfOk r (λ holds. holds ≡ true → IsInForm raw)
  in_form (Ok holds) h = λ (is : holds ≡ true). in_form_label raw.graph refl (h is)
  in_form (Err fault) h = tt

-- a statement in form that the filter does not want
pub unneeded : {E : Type 0} (filter : QuadFilter) (raw : RawStatement) (r : Result Bool E) → ((q : QuadParts) → HasSlices raw q → keeps filter q ≡ false)
    → IfOk r (λ holds. holds ≡ true → IsInForm raw) → IfOk r (λ holds. holds ≡ true → IsUnneeded filter raw)
unneeded filter raw (Ok holds) none h = λ (is : holds ≡ true).
    let valid = h is in
    record { valid = valid; unneeded = none valid.quad valid.slices }
unneeded filter raw (Err fault) none h = tt

-- ---- the statements of a piece

-- the quads of statements and of one more
record AreAndOne (kept : List RawStatement) (raw : RawStatement) (quads : List QuadParts) : Type 0 where
  front : List QuadParts
  last : QuadParts
  parts : quads ≡ front ++ last ∷ []
  denote : DenoteAll kept front
  denotes : DenotesQuad raw last

denote-split : (kept : List RawStatement) (raw : RawStatement) (quads : List QuadParts) → DenoteAll (kept ++ raw ∷ []) quads → AreAndOne kept raw quads
denote-split [] raw quads h = record { front = []; last = h.0; parts = h.2 ∙ ap (λ l. h.0 ∷ l) h.4; denote = refl; denotes = h.3 }
denote-split (k ∷ kept) raw quads h =
    let r = denote-split kept raw h.1 h.4 in record {
      front = h.0 ∷ r.front;
      last = r.last;
      parts = h.2 ∙ ap (λ l. h.0 ∷ l) r.parts;
      denote = (h.0, r.front, refl, h.3, r.denote);
      denotes = r.denotes;
    }

module _ (filter : QuadFilter) (raws kept : List RawStatement) where
  relevant_kept_one : (raw : RawStatement) → AreRelevant filter raws kept → AreRelevant filter (raws ++ raw ∷ []) (kept ++ raw ∷ [])
  relevant_kept_one raw was quads denote =
      let s = denote-split kept raw quads denote in
      let a = was s.front s.denote in
      let one : List QuadParts = s.last ∷ [] in (
        a.0 ++ one,
        denote-more raws a.0 raw s.last a.1 s.denotes,
        subst (λ l. IsKept (keeps filter) (a.0 ++ one) l) (sym s.parts) (kept_joins (keeps filter) a.0 s.front one one a.2 (list_is_kept (keeps filter) one)),
      )

  relevant_left_one : (raw : RawStatement) → IsUnneeded filter raw → AreRelevant filter raws kept → AreRelevant filter (raws ++ raw ∷ []) kept
  relevant_left_one raw left was quads denote =
      let a = was quads denote in
      let q = left.valid.quad in
      let none : IsKept (keeps filter) (q ∷ []) [] = inr (left.unneeded, refl) in (
        a.0 ++ q ∷ [],
        denote-more raws a.0 raw q a.1 left.valid.denotes,
        subst (λ l. IsKept (keeps filter) (a.0 ++ q ∷ []) l) (append-nil quads) (kept_joins (keeps filter) a.0 quads (q ∷ []) [] a.2 none),
      )

pub relevant_none : (filter : QuadFilter) (raws kept : List RawStatement) → kept ≡ [] → AreRelevant filter (take 0 raws) kept
relevant_none filter raws kept none quads denote = ([], refl, subst (λ l. DenoteAll l quads) none denote)

module _ (filter : QuadFilter) (raws kept : List RawStatement) (i : ℕ) (raw d : RawStatement) (low : i < length raws) (at : raw ≡ get_or raws i d) where
  next_statement : take (i + 1) raws ≡ take i raws ++ raw ∷ []
  next_statement = take_more raws i d low ∙ ap (λ r. take i raws ++ r ∷ []) (sym at)

  -- one more statement that is kept
  pub relevant_kept : (more : List RawStatement) → AreRelevant filter (take i raws) kept → more ≡ kept ++ raw ∷ [] → AreRelevant filter (take (i + 1) raws) more
  relevant_kept more was pushed =
      subst (λ l. AreRelevant filter l more) (sym next_statement)
      (subst (λ l. AreRelevant filter (take i raws ++ raw ∷ []) l) (sym pushed) (relevant_kept_one filter (take i raws) kept raw was))

  -- one more statement that is left out
  pub relevant_left : IsUnneeded filter raw → AreRelevant filter (take i raws) kept → AreRelevant filter (take (i + 1) raws) kept
  relevant_left left was = subst (λ l. AreRelevant filter l kept) (sym next_statement) (relevant_left_one filter (take i raws) kept raw left was)
