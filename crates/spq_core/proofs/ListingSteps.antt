-- Texts that are listed one after the other.
use Rattle.std.proofs.Common.{◌≡◌, ℕ, ◌+◌, List, [], ◌∷◌, ◌++◌, get_or, map, take, codes, slice_get, Some, refl, sym, ap, ◌∙◌, append_assoc, append-nil}
use Rattle.std.proofs.lemmas.List.{take_more}
use Rattle.std.proofs.lemmas.Option.{get_or_from_slice_get, slice_get_within}
use Rattle.std.proofs.lemmas.Grind.{flat_map-append}
use Rattle.rdf_core.specs.declared.term.Term.{Term}
use Rattle.rdf_core.specs.Serialization.{serialization}
use Rattle.spq_core.specs.Listing.{term_lines, text_lines}

pub text_more : (texts : List (List ℕ)) (n : ℕ) (t : List ℕ) (text text' text'' : List ℕ) → slice_get texts n ≡ Some t → text ≡ text_lines (take n texts)
    → text' ≡ text ++ t → text'' ≡ text' ++ 10 ∷ [] → text'' ≡ text_lines (take (n + 1) texts)
text_more texts n t text text' text'' at was wrote pushed =
    let low = slice_get_within texts n t at in
    let is : get_or texts n [] ≡ t = get_or_from_slice_get texts n t [] at in
    let e : take (n + 1) texts ≡ take n texts ++ t ∷ [] = take_more texts n [] low ∙ ap (λ x. take n texts ++ x ∷ []) is in
    pushed ∙ ap (λ (x : List ℕ). x ++ 10 ∷ []) (wrote ∙ ap (λ (x : List ℕ). x ++ t) was)
    ∙ append_assoc (text_lines (take n texts)) t (10 ∷ [])
    ∙ ap (λ (x : List ℕ). text_lines (take n texts) ++ x) (sym (append-nil (t ++ codes "\n")))
    ∙ sym (flat_map-append (λ (u : List ℕ). u ++ codes "\n") (take n texts) (t ∷ [])) ∙ ap text_lines (sym e)

-- the N-Quads forms of terms on lines are the terms on lines
pub lines_of_forms : (terms : List Term) → text_lines (map serialization terms) ≡ term_lines terms
lines_of_forms [] = refl
lines_of_forms (t ∷ terms) = ap (λ (x : List ℕ). (serialization t ++ codes "\n") ++ x) (lines_of_forms terms)
