-- What a set's words say where its equality is sameness.
use Rattle.std.proofs.Common.{◌≡◌, ℕ, Bool, true, false, if◌then◌else◌, List, [], ◌∷◌, ◌++◌, get_or, slice_get, position, Some, Contains, refl, sym, ap, subst, ◌∙◌, true≢false}
use Rattle.std.specs.List.{list_any}
use Rattle.std.proofs.lemmas.Map.Views.{list_any-from_Contains}
use Rattle.std.proofs.lemmas.List.Quantifiers.{position-Some}
use Rattle.std.proofs.lemmas.Option.{slice_get-get_or}
use Rattle.indexmap.specs.IndexSet.{insert_key}
use Rattle.indexmap.proofs.CallerLemmas.{Contains-list_any}
use Rattle.rdf_core.specs.declared.term.Term.{Term}
use Rattle.rdf_core.proofs.TermLaws.{term_eq, term_decides, term_eq_laws}

pub insert_known : (ks : List Term) (k : Term) → Contains ks k → insert_key term_eq ks k ≡ ks
insert_known ks k h = ap (λ b. if b then ks else ks ++ k ∷ []) (list_any-from_Contains term_eq_laws k ks h)

pub insert_new : (ks : List Term) (k : Term) → (Contains ks k → ⊥) → insert_key term_eq ks k ≡ ks ++ k ∷ []
insert_new ks k absent = by (list_any (term_eq k) ks) refl
  where
    by : (b : Bool) → list_any (term_eq k) ks ≡ b → insert_key term_eq ks k ≡ ks ++ k ∷ []
    by true e = absurd (absent (Contains-list_any term_eq (λ x y. (term_decides x y).0) ks k e))
    by false e = ap (λ b. if b then ks else ks ++ k ∷ []) e

pub number_is : (ks : List Term) (k : Term) (i : ℕ) → position (term_eq k) ks ≡ Some i → slice_get ks i ≡ Some k
number_is ks k i e =
    let p = position-Some (term_eq k) ks i k e in
    slice_get-get_or ks i k p.0 ∙ ap Some (sym ((term_decides k (get_or ks i k)).0 p.1))

pub not_there : (ks : List Term) (k : Term) → false ≡ list_any (term_eq k) ks → Contains ks k → ⊥
not_there ks k e h = true≢false (sym (e ∙ list_any-from_Contains term_eq_laws k ks h))

-- a term that is not there goes last
pub goes_last : (old inside new : List Term) (k : Term) → inside ≡ old → new ≡ insert_key term_eq inside k → (Contains old k → ⊥) → new ≡ old ++ k ∷ []
goes_last old inside new k same keys absent =
    subst (λ ks. new ≡ insert_key term_eq ks k) same keys ∙ insert_new old k absent

-- a term that a look-up did not find is not there
pub lacks : (old inside : List Term) (k : Term) → inside ≡ old → list_any (term_eq k) inside ≡ false → Contains old k → ⊥
lacks old inside k same absent h = not_there old k (sym (subst (λ ks. list_any (term_eq k) ks ≡ false) same absent)) h
