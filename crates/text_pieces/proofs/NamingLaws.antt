-- The numbers of slices.
use Rattle.std.proofs.Common.{◌≡◌, ◌≢◌, ◌⊎◌, inl, inr, ℕ, zero, suc, ◌+◌, true, List, [], ◌∷◌, ◌++◌, length, get_or, Some, slice_get, refl, sym, ap, ◌∙◌, subst, arith, append_assoc}
use Rattle.std.specs.Prelude.{⊤}
use Rattle.std.proofs.lemmas.List.{append-nil}
use Rattle.std.proofs.lemmas.Option.{slice_get_within}
use Rattle.indexmap.specs.IndexSet.{insert_key}
use Rattle.rdf_core.specs.declared.term.Term.{Term}
use Rattle.rdf_core.specs.declared.term.Term.TheVariants.{Blank, Iri, Literal}
use Rattle.rdf_core.specs.QuadFacts.{is_iri, is_node}
use Rattle.rdf_core.specs.Serialization.{serialization}
use Rattle.rdf_core.proofs.TermLaws.{term_eq}
use Rattle.nquads_core.specs.Slices.{Denotes}
use Rattle.nquads_core.proofs.Forms.{forms_denote, slices_denote_terms}
use Rattle.nquads_scan.specs.Canonical.{HasForm}
use Rattle.text_dict.specs.Forms.{IsForm}
use Rattle.text_dict.specs.TextDict.{Has, IsAdded}
use Rattle.text_pieces.specs.Forms.{AreFormsOf}
use Rattle.text_pieces.specs.Pieces.{AreGrown}
use Rattle.text_pieces.specs.Slices.{IsNumberOf, IsPlaced}
use Rattle.text_pieces.proofs.FormLaws.{inserted_form, number_of_term, text_of_term}

-- ---- two lists of texts, one after the other

pub get-left : (dict new : List (List ℕ)) (n : ℕ) (text : List ℕ) → slice_get dict n ≡ Some text → slice_get (dict ++ new) n ≡ Some text
get-left [] new n text at = let w = slice_get_within [] n text at in absurd (omega (arith, w))
get-left (t ∷ dict) new zero text at = at
get-left (t ∷ dict) new (suc n) text at = get-left dict new n text at

pub get-right : (dict new : List (List ℕ)) (m n : ℕ) (text : List ℕ) → m ≡ length dict + n → slice_get new n ≡ Some text → slice_get (dict ++ new) m ≡ Some text
get-right [] new m n text m_is at = let e : n ≡ m = omega (arith, m_is) in subst (λ k. slice_get new k ≡ Some text) e at
get-right (t ∷ dict) new zero n text m_is at = absurd (omega (arith, m_is))
get-right (t ∷ dict) new (suc m) n text m_is at = get-right dict new m n text (omega (arith, m_is)) at

has-append : (dict new : List (List ℕ)) (text : List ℕ) → Has (dict ++ new) text → Has dict text ⊎ Has new text
has-append [] new text h = inr h
has-append (t ∷ dict) new text h = by h.0 h.1 (λ n at. has-append dict new text (n, at))
  where
    on : Has dict text ⊎ Has new text → Has (t ∷ dict) text ⊎ Has new text
    on (inl x) = inl (suc x.0, x.1)
    on (inr x) = inr x

    by : (n : ℕ) → slice_get (t ∷ (dict ++ new)) n ≡ Some text → ((k : ℕ) → slice_get (dict ++ new) k ≡ Some text → Has dict text ⊎ Has new text)
        → Has (t ∷ dict) text ⊎ Has new text
    by zero at rest = inl (zero, at)
    by (suc n) at rest = on (rest n at)

-- a text of the dictionary
pub placed_known : (dict new : List (List ℕ)) (text : List ℕ) (n : ℕ) → slice_get (dict ++ new) n ≡ Some text → IsPlaced dict new new text n
placed_known dict new text n at = record { at = at; added = inl ((n, at), refl) }

-- a text that the dictionary lacks
pub placed_new : (dict old new : List (List ℕ)) (text : List ℕ) (m n : ℕ) → (Has dict text → ⊥) → IsAdded old text new → slice_get new n ≡ Some text → m ≡ length dict + n
    → IsPlaced dict old new text m
placed_new dict old new text m n lacks added at m_is = record { at = get-right dict new m n text m_is at; added = by added }
  where
    by : IsAdded old text new → IsAdded (dict ++ old) text (dict ++ new)
    by (inl x) = inl ((length dict + x.0.0, get-right dict old (length dict + x.0.0) x.0.0 text refl x.0.1), ap (λ l. dict ++ l) x.1)
    by (inr x) = inr ((λ h. on (has-append dict old text h)), ap (λ l. dict ++ l) x.1 ∙ sym (append_assoc dict old (text ∷ [])))
      where
        on : Has dict text ⊎ Has old text → ⊥
        on (inl y) = lacks y
        on (inr y) = x.0 y

-- a text that is added makes the list longer
grown_added : (texts : List (List ℕ)) (text : List ℕ) (later : List (List ℕ)) → IsAdded texts text later → AreGrown texts later
grown_added texts text later (inl x) = ([], x.1 ∙ sym (append-nil texts))
grown_added texts text later (inr x) = (text ∷ [], x.1)

-- ---- the term of a slice

pub form_of_slice : (raw text : List ℕ) → HasForm raw text → IsForm text
form_of_slice raw text h = record { term = h.term; occurs = slices_denote_terms raw h.term h.denotes; form = h.form }

pub slice_of_form : (raw : List ℕ) → IsForm raw → HasForm raw raw
slice_of_form raw h = record { term = h.term; denotes = subst (λ r. Denotes r h.term) (sym h.form) (forms_denote h.term h.occurs); form = h.form }

-- the number of the form is the number of the slice
pub numbered_slice : (dict old new : List (List ℕ)) (raw text : List ℕ) (n : ℕ) → HasForm raw text → IsPlaced dict old new text n → IsNumberOf (λ _. ⊤) dict old new raw n
numbered_slice dict old new raw text n h placed =
    let occurs = slices_denote_terms raw h.term h.denotes in record {
      within = slice_get_within (dict ++ new) n text placed.at;
      grown = grown_added (dict ++ old) text (dict ++ new) placed.added;
      terms = λ earlier forms.
          let later : List Term = insert_key term_eq earlier h.term in
          let later_forms : AreFormsOf later (dict ++ new) = inserted_form earlier (dict ++ old) (dict ++ new) h.term text forms occurs h.form placed.added in (
            later,
            later_forms,
            record {
              term = h.term;
              denotes = h.denotes;
              allowed = tt;
              at = number_of_term later (dict ++ new) later_forms n h.term text occurs h.form placed.at;
              grown = refl;
            },
          );
    }

-- ---- the kind of a term

pub node_by_first : (t : Term) → get_or (serialization t) 0 0 ≢ 34 → is_node t ≡ true
node_by_first (Blank label) h = refl
node_by_first (Iri text) h = refl
node_by_first (Literal lexical datatype tag) h = absurd (h refl)

pub iri_by_first : (t : Term) → get_or (serialization t) 0 0 ≡ 60 → is_iri t ≡ true
iri_by_first (Blank label) h = absurd (omega (arith, h))
iri_by_first (Iri text) h = refl
iri_by_first (Literal lexical datatype tag) h = absurd (omega (arith, h))

-- a number of a term that P holds of
pub number_of_kind : (P : Term → Type 0) (dict old new : List (List ℕ)) (raw text : List ℕ) (n : ℕ) → IsNumberOf (λ _. ⊤) dict old new raw n → slice_get (dict ++ new) n ≡ Some text
    → ((t : Term) → text ≡ serialization t → P t) → IsNumberOf P dict old new raw n
number_of_kind P dict old new raw text n h at kind = record {
  within = h.within;
  grown = h.grown;
  terms = λ earlier forms.
      let r = h.terms earlier forms in (
        r.0,
        r.1,
        record {
          term = r.2.term;
          denotes = r.2.denotes;
          allowed = kind r.2.term (let e : Some text ≡ Some (serialization r.2.term) = sym at ∙ text_of_term r.0 (dict ++ new) r.1 n r.2.term r.2.at in cc);
          at = r.2.at;
          grown = r.2.grown;
        },
      );
}
