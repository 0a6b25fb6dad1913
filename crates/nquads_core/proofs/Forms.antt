-- The N-Quads form of a term is its own, and denotes it.
use Rattle.std.proofs.Common.{◌≡◌, List, ℕ, Some, ap, subst, ◌++◌, refl, inl, inr}
use Rattle.std.specs.Prelude.{codes}
use Rattle.std.proofs.lemmas.Option.{same_Some}
use Rattle.rdf_core.specs.QuadParts.{QuadParts}
use Rattle.nquads_core.specs.Grammar.{HasStatement}
use Rattle.nquads_core.specs.Laws.{FormsAreDistinct, FormsDenote, SlicesDenoteTerms, object_line, with_object}
use Rattle.nquads_core.proofs.Meaning.{one_meaning}
use Rattle.nquads_core.proofs.GoodTerms.{slice_good}
use Rattle.nquads_core.proofs.Again.{good_denotes, good_of, good_round_trip}

pub forms_are_distinct : FormsAreDistinct
forms_are_distinct t u h k e =
    let line : object_line t ≡ object_line u = ap (λ (y : List ℕ). codes "<a:> <a:> " ++ (y ++ codes " .")) e in
    let first = subst (λ (y : List ℕ). HasStatement y (Some (with_object t))) line (good_round_trip t (good_of t h)) in
    let same = one_meaning (object_line u) (Some (with_object t)) (Some (with_object u)) first (good_round_trip u (good_of u k)) in
    ap (λ (q : QuadParts). q.o) (same_Some (with_object t) (with_object u) same)

pub forms_denote : FormsDenote
forms_denote t h = good_denotes t (good_of t h)

pub slices_denote_terms : SlicesDenoteTerms
slices_denote_terms raw t d = (object_line t, with_object t, good_round_trip t (slice_good raw t d), inr (inr (inl refl)))
