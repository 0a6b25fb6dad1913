-- One more text is printed.
use Rattle.std.proofs.Common.{◌≡◌, ◌≢◌, ℕ, ◌+◌, ◌-◌, ◌<◌, ◌≤◌, List, ◌++◌, length, get_or, set, take, drop, inl, inr, sym, ap, ◌∙◌, subst, arith, ⊎_elim}
use Rattle.std.specs.List.{slice_range}
use Rattle.std.proofs.lemmas.Bool.{cases_eq, cases_lt}
use Rattle.std.proofs.lemmas.List.{length-append, length-drop, length-set, get_or-set_same, get_or-set_other, take-append-le, drop-append-le, take_all}
use Rattle.std.proofs.Math.Seq.{drop-append_seam}
use Rattle.rdf_core.specs.declared.term.Term.{Term}
use Rattle.dict_core.specs.Dict.{term_at}
use Rattle.result_json.specs.Results.{term_text}
use Rattle.result_json.specs.Texts.{Span, ArePrinted, IsSpanOf}

-- a part of a buffer is unchanged as the buffer grows
part_stays : (xs ys : List ℕ) (a b : ℕ) → a < b → b ≤ length xs → slice_range (xs ++ ys) a b ≡ slice_range xs a b
part_stays xs ys a b l h =
    ap (take (b - a)) (drop-append-le a xs ys (omega arith)) ∙ take-append-le (b - a) (drop a xs) ys (rw (length-drop a xs) (omega arith))

-- what was appended is the last part
part_after : (xs ys : List ℕ) → slice_range (xs ++ ys) (length xs) (length (xs ++ ys)) ≡ ys
part_after xs ys =
    let n : length (xs ++ ys) ≡ length xs + length ys = length-append xs ys in
    ap (take (length (xs ++ ys) - length xs)) (drop-append_seam xs ys) ∙ take_all (length (xs ++ ys) - length xs) ys (omega (arith, n))

pub printed_more : (terms : List Term) (printed text : List ℕ) (spans : List Span) (i : ℕ) → ArePrinted terms printed spans → i < length terms → text ≡ term_text (term_at terms i)
    → ArePrinted terms (printed ++ text) (set spans i (length printed, length (printed ++ text)))
printed_more terms printed text spans i h l e = (length-set spans i span ∙ h.0, λ j b. ⊎_elim (same j) (other j b) (cases_eq j i))
  where
    span : Span
    span = (length printed, length (printed ++ text))

    same : (j : ℕ) → j ≡ i → IsSpanOf (printed ++ text) (term_at terms j) (get_or (set spans i span) j (0, 0))
    same j p =
        let s : get_or (set spans i span) j (0, 0) ≡ span = ap (λ k. get_or (set spans i span) k (0, 0)) p ∙ get_or-set_same spans i span (0, 0) (omega (arith, h.0)) in
        subst (IsSpanOf (printed ++ text) (term_at terms j)) (sym s) (inr (omega arith, part_after printed text ∙ e ∙ ap (λ k. term_text (term_at terms k)) (sym p)))

    stays : (j : ℕ) (s : Span) → IsSpanOf printed (term_at terms j) s → IsSpanOf (printed ++ text) (term_at terms j) s
    stays j s (inl none) = inl none
    stays j s (inr some) = ⊎_elim (λ (a : s.0 < s.1). inr (rw (length-append printed text) (omega (arith, some.0)), part_stays printed text s.0 s.1 a some.0 ∙ some.1)) (λ (a : s.1 ≤ s.0). inl a) (cases_lt s.0 s.1)

    other : (j : ℕ) → j < length terms → j ≢ i → IsSpanOf (printed ++ text) (term_at terms j) (get_or (set spans i span) j (0, 0))
    other j b ne = subst (IsSpanOf (printed ++ text) (term_at terms j)) (sym (get_or-set_other spans i j span (0, 0) ne)) (stays j (get_or spans j (0, 0)) (h.1 j b))
