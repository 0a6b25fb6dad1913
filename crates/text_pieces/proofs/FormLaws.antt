-- Terms and their N-Quads forms.
use Rattle.std.proofs.Common.{◌≡◌, inl, inr, ℕ, zero, suc, Bool, true, false, List, [], ◌∷◌, ◌++◌, length, map, Some, slice_get, refl, sym, ap, ◌∙◌, subst, arith}
use Rattle.std.specs.List.{All, list_any, position_or_len}
use Rattle.std.specs.Option.{option_map}
use Rattle.std.proofs.lemmas.List.{map-append, length-map}
use Rattle.std.proofs.lemmas.List.Elements.{All-nil, All-cons, All-head, All-tail, All-append}
use Rattle.std.proofs.lemmas.Option.{slice_get_within, slice_get-map}
use Rattle.indexmap.specs.IndexSet.{insert_key}
use Rattle.rdf_core.specs.declared.term.Term.{Term}
use Rattle.rdf_core.specs.Serialization.{serialization}
use Rattle.rdf_core.proofs.TermLaws.{term_eq}
use Rattle.nquads_core.specs.Laws.{IsNQuadsTerm}
use Rattle.nquads_core.proofs.Forms.{forms_are_distinct}
use Rattle.text_dict.specs.Forms.{AreForms}
use Rattle.text_dict.specs.TextDict.{IsAdded}
use Rattle.dict_core.proofs.InsertLaws.{any-from_get, at-position, insert_key-absent, insert_key-present}
use Rattle.text_pieces.specs.Forms.{AreFormsOf}

-- the terms of forms
pub terms_of_forms : (texts : List (List ℕ)) → AreForms texts → (terms : List Term) × AreFormsOf terms texts
terms_of_forms [] h = ([], record { forms = refl; occur = All-nil IsNQuadsTerm })
terms_of_forms (text ∷ texts) h =
    let rest = terms_of_forms texts h.1 in (
      h.0.term ∷ rest.0,
      record {
        forms = λ i. h.0.form i ∷ rest.1.forms i;
        occur = All-cons IsNQuadsTerm h.0.term rest.0 h.0.occurs rest.1.occur;
      },
    )

-- a text that has a number is the form of the term that has it
pub record IsTermAt (terms : List Term) (n : ℕ) (text : List ℕ) : Type 0 where
  pub term : Term
  pub at : slice_get terms n ≡ Some term
  pub form : text ≡ serialization term
  pub occurs : IsNQuadsTerm term

get_form : (terms : List Term) → All IsNQuadsTerm terms → (n : ℕ) (text : List ℕ) → slice_get (map serialization terms) n ≡ Some text → IsTermAt terms n text
get_form [] h n text at = let w = slice_get_within [] n text at in absurd (omega (arith, w))
get_form (t ∷ terms) h zero text at =
    let e : serialization t ≡ text = cc in
    record { term = t; at = refl; form = sym e; occurs = All-head IsNQuadsTerm t terms h }
get_form (t ∷ terms) h (suc n) text at =
    let r = get_form terms (All-tail IsNQuadsTerm t terms h) n text at in
    record { term = r.term; at = r.at; form = r.form; occurs = r.occurs }

pub term_of_text : (terms : List Term) (texts : List (List ℕ)) → AreFormsOf terms texts → (n : ℕ) (text : List ℕ) → slice_get texts n ≡ Some text → IsTermAt terms n text
term_of_text terms texts h n text at = get_form terms h.occur n text (subst (λ l. slice_get l n ≡ Some text) h.forms at)

pub text_of_term : (terms : List Term) (texts : List (List ℕ)) → AreFormsOf terms texts → (n : ℕ) (t : Term) → slice_get terms n ≡ Some t → slice_get texts n ≡ Some (serialization t)
text_of_term terms texts h n t at =
    ap (λ l. slice_get l n) h.forms ∙ slice_get-map serialization terms n ∙ ap (option_map serialization) at

-- the number of the form of a term is the number of the term
pub number_of_term : (terms : List Term) (texts : List (List ℕ)) → AreFormsOf terms texts → (n : ℕ) (t : Term) (text : List ℕ) → IsNQuadsTerm t → text ≡ serialization t
    → slice_get texts n ≡ Some text → slice_get terms n ≡ Some t
number_of_term terms texts h n t text occurs form at =
    let r = term_of_text terms texts h n text at in
    r.at ∙ ap Some (forms_are_distinct r.term t r.occurs occurs (sym r.form ∙ form))

pub length_forms : (terms : List Term) (texts : List (List ℕ)) → AreFormsOf terms texts → length texts ≡ length terms
length_forms terms texts h = ap length h.forms ∙ length-map terms serialization

pub forms-append : (xs ys : List Term) (us vs : List (List ℕ)) → AreFormsOf xs us → AreFormsOf ys vs → AreFormsOf (xs ++ ys) (us ++ vs)
forms-append xs ys us vs h k = record {
  forms = (λ i. h.forms i ++ k.forms i) ∙ sym (map-append serialization xs ys);
  occur = All-append IsNQuadsTerm xs ys h.occur k.occur;
}

pub forms-one : (t : Term) (text : List ℕ) → IsNQuadsTerm t → text ≡ serialization t → AreFormsOf (t ∷ []) (text ∷ [])
forms-one t text occurs form = record { forms = ap (λ x. x ∷ []) form; occur = All-cons IsNQuadsTerm t [] occurs (All-nil IsNQuadsTerm) }

-- a text that is added is a term that is inserted
pub inserted_form : (terms : List Term) (texts later : List (List ℕ)) (t : Term) (text : List ℕ) → AreFormsOf terms texts → IsNQuadsTerm t → text ≡ serialization t
    → IsAdded texts text later → AreFormsOf (insert_key term_eq terms t) later
inserted_form terms texts later t text h occurs form (inl x) =
    let at = number_of_term terms texts h x.0.0 t text occurs form x.0.1 in
    subst (λ l. AreFormsOf (insert_key term_eq terms t) l) (sym x.1)
    (subst (λ l. AreFormsOf l texts) (sym (insert_key-present terms t (any-from_get terms x.0.0 t at))) h)
inserted_form terms texts later t text h occurs form (inr x) = by (list_any (term_eq t) terms) refl
  where
    by : (b : Bool) → list_any (term_eq t) terms ≡ b → AreFormsOf (insert_key term_eq terms t) later
    by true e =
        let at = text_of_term terms texts h (position_or_len (term_eq t) terms) t (at-position terms t e) in
        absurd (x.0 (position_or_len (term_eq t) terms, at ∙ ap Some (sym form)))
    by false e =
        subst (λ l. AreFormsOf (insert_key term_eq terms t) l) (sym x.1)
        (subst (λ l. AreFormsOf l (texts ++ text ∷ [])) (sym (insert_key-absent terms t e)) (forms-append terms (t ∷ []) texts (text ∷ []) h (forms-one t text occurs form)))
