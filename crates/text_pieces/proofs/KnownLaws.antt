-- Slices whose numbers are known.
use Rattle.std.proofs.Common.{◌≡◌, ℕ, true, List, ◌++◌, length, Option, None, Some, slice_get, sym, ap, ◌∙◌, subst, arith, append_assoc}
use Rattle.std.specs.Borrow.{Bor}
use Rattle.std.specs.Option.{IfSome}
use Rattle.std.proofs.lemmas.List.{length-append}
use Rattle.rdf_core.specs.declared.term.Term.{Term}
use Rattle.rdf_core.specs.QuadFacts.{is_node}
use Rattle.nquads_core.specs.Slices.{Denotes}
use Rattle.dict_core.proofs.InsertLaws.{any-from_get, insert_key-present}
use Rattle.text_pieces.specs.Forms.{AreFormsOf}
use Rattle.text_pieces.specs.Pieces.{AreGrown}
use Rattle.text_pieces.specs.Slices.{IsKnown, IsKnownName, IsKnownNode, IsNumberOf}
use Rattle.text_pieces.proofs.AddingLaws.{forms_unique, get-front, grown_same, split_forms}

pub grown_then : (a b c : List (List ℕ)) → AreGrown a b → AreGrown b c → AreGrown a c
grown_then a b c h k = (h.0 ++ k.0, k.1 ∙ ap (λ l. l ++ k.0) h.1 ∙ append_assoc a h.0 k.0)

module _ (P : Term → Type 0) (dict : List (List ℕ)) (raw : List ℕ) (n : ℕ) where
  -- a number stays known when more texts are new
  pub known_kept : (old new : List (List ℕ)) → AreGrown (dict ++ old) (dict ++ new) → IsKnown P dict old raw n → IsKnown P dict new raw n
  known_kept old new grown h = record {
    within = omega (arith, h.within, ap length grown.1, length-append (dict ++ old) grown.0);
    terms = λ all forms.
        let s = split_forms (dict ++ old) grown.0 all (subst (AreFormsOf all) grown.1 forms) in
        let d = h.terms s.front s.front_forms in
        record {
          term = d.term;
          denotes = d.denotes;
          allowed = d.allowed;
          at = subst (λ l. slice_get l n ≡ Some d.term) (sym s.parts) (get-front s.front s.back n d.term d.at);
        };
  }

  -- the number of a slice is known afterwards
  pub known_number : (old new : List (List ℕ)) → IsNumberOf P dict old new raw n → IsKnown P dict new raw n
  known_number old new h = record {
    within = h.within;
    terms = λ all forms.
        let s = split_forms (dict ++ old) h.grown.0 all (subst (AreFormsOf all) h.grown.1 forms) in
        let r = h.terms s.front s.front_forms in
        let same = forms_unique (dict ++ new) r.0 all r.1 forms in
        record {
          term = r.2.term;
          denotes = r.2.denotes;
          allowed = r.2.allowed;
          at = subst (λ l. slice_get l n ≡ Some r.2.term) same r.2.at;
        };
  }

  -- a number that is known is that of each equal slice
  pub number_known : (new : List (List ℕ)) (before : List ℕ) → before ≡ raw → IsKnown P dict new before n → IsNumberOf P dict new new raw n
  number_known new before same h = record {
    within = h.within;
    grown = grown_same (dict ++ new);
    terms = λ earlier forms.
        let d = h.terms earlier forms in (
          earlier,
          forms,
          record {
            term = d.term;
            denotes = subst (λ r. Denotes r d.term) same d.denotes;
            allowed = d.allowed;
            at = d.at;
            grown = sym (insert_key-present earlier d.term (any-from_get earlier n d.term d.at));
          },
        );
  }

module _ (dict : List (List ℕ)) where
  -- the graph label of the statement before
  pub known_label : (new : List (List ℕ)) (graph : Option (Bor (List ℕ))) (label : Bor (List ℕ)) (last : Option ℕ) → graph ≡ Some label
      → IfSome last (IsKnownName dict new graph) → IfSome last (IsKnownNode dict new label.now)
  known_label new graph label None is h = tt
  known_label new graph label (Some n) is h = h label is

  pub known_name : (old new : List (List ℕ)) (graph : Option (Bor (List ℕ))) (label : Bor (List ℕ)) (n : ℕ) → graph ≡ Some label
      → IsNumberOf (λ t. is_node t ≡ true) dict old new label.now n → IsKnownName dict new graph n
  known_name old new graph label n is h = λ name named.
      let e : Some label ≡ Some name = sym is ∙ named in
      let same : label ≡ name = cc in
      subst (λ (b : Bor (List ℕ)). IsKnownNode dict new b.now n) same (known_number (λ t. is_node t ≡ true) dict label.now n old new h)

  pub name_kept : (old new : List (List ℕ)) (graph : Option (Bor (List ℕ))) (last : Option ℕ) → AreGrown (dict ++ old) (dict ++ new)
      → IfSome last (IsKnownName dict old graph) → IfSome last (IsKnownName dict new graph)
  name_kept old new graph None grown h = tt
  name_kept old new graph (Some n) grown h = λ name is. known_kept _ dict name.now n old new grown (h name is)

  -- the texts after the terms of a statement
  pub grown_by_three : (t0 t1 t2 t3 : List (List ℕ)) → AreGrown (dict ++ t0) (dict ++ t1) → AreGrown (dict ++ t1) (dict ++ t2) → AreGrown (dict ++ t2) (dict ++ t3)
      → AreGrown (dict ++ t0) (dict ++ t3)
  grown_by_three t0 t1 t2 t3 a b c = grown_then (dict ++ t0) (dict ++ t1) (dict ++ t3) a (grown_then (dict ++ t1) (dict ++ t2) (dict ++ t3) b c)
