-- The places that insertions return are the numbers that the terms have.
use Rattle.std.proofs.Common.{◌≡◌, ℕ, List, [], ◌∷◌, ◌++◌, append_assoc, sym, ap, ◌∙◌}
use Rattle.std.specs.List.{position_or_len}
use Rattle.indexmap.specs.IndexSet.{insert_key, insert_all}
use Rattle.rdf_core.specs.declared.term.Term.{Term}
use Rattle.rdf_core.proofs.TermLaws.{term_eq}
use Rattle.dict_core.specs.Dict.{AreNumbersOf}
use Rattle.dict_core.specs.Inserting.{places_in}
use Rattle.dict_core.proofs.InsertLaws.{get-insert_all, get-inserted}

pub places_are : (dict terms : List Term) → AreNumbersOf (insert_all term_eq dict terms) terms (places_in dict terms)
places_are dict [] = tt
places_are dict (t ∷ ts) = (
  get-insert_all (insert_key term_eq dict t) ts (position_or_len (term_eq t) dict) t (get-inserted dict t),
  places_are (insert_key term_eq dict t) ts,
)

-- ---- one more insertion

pub inserted_one : (ks new : List Term) (t : Term) (left rest whole : List Term) → new ≡ insert_key term_eq ks t → left ≡ t ∷ rest
    → insert_all term_eq ks left ≡ whole → insert_all term_eq new rest ≡ whole
inserted_one ks new t left rest whole new_is left_is was = ap (λ l. insert_all term_eq l rest) new_is ∙ ap (insert_all term_eq ks) (sym left_is) ∙ was

pub placed_one : (ks new : List Term) (t : Term) (left rest : List Term) (done more : List ℕ) (n : ℕ) (whole : List ℕ)
    → new ≡ insert_key term_eq ks t → n ≡ position_or_len (term_eq t) ks → left ≡ t ∷ rest → more ≡ done ++ n ∷ []
    → done ++ places_in ks left ≡ whole → more ++ places_in new rest ≡ whole
placed_one ks new t left rest done more n whole new_is n_is left_is pushed was =
    ap (λ l. l ++ places_in new rest) pushed ∙ append_assoc done (n ∷ []) (places_in new rest) ∙ (λ i. done ++ n_is i ∷ places_in (new_is i) rest)
    ∙ ap (λ l. done ++ places_in ks l) (sym left_is) ∙ was
