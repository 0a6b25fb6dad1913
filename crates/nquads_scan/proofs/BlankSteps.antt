-- Comments and line ends at the front of a text.
use Rattle.std.proofs.Common.{◌≡◌, ℕ, zero, suc, ◌≤◌, ◌<◌, true, false, List, [], ◌∷◌, ◌++◌, length, take, drop, get_or, slice_range, Some, None, refl, sym, ap, subst, ◌∙◌, append-nil, arith, inl, inr}
use Rattle.std.specs.Prelude.{not}
use Rattle.std.specs.List.{list_all}
use Rattle.std.specs.Str.{IsUtf8}
use Rattle.std.proofs.Math.Seq.{take-length}
use Rattle.std.proofs.lemmas.List.{take-append-drop}
use Rattle.memchr.specs.Find.{is_byte2, IsFirstByte}
use Rattle.rdf_core.proofs.EscapeSteps.{eqb_no, which}
use Rattle.rdf_core.proofs.EscapeLaws.{and_is}
use Rattle.nquads_core.specs.Lines.{begins_with_lf}
use Rattle.nquads_scan.specs.Ends.{EndsAt, HasNoEnd, HasNoEndIn, IsApart}
use Rattle.nquads_scan.specs.Layout.{IsBlanksThen, IsComment, IsCommentThen, IsCut, IsLineEndThen, at_text_end, lf, cr, crlf}
use Rattle.nquads_scan.proofs.LayoutSteps.{apart_at}
use Rattle.nquads_scan.proofs.NoEnds.{no_end, take_kept}

false_true : false ≡ true → ⊥
false_true e = cc

-- ---- comments

no_end_before : (bytes : List ℕ) (n : ℕ) → n ≤ length bytes → ((k : ℕ) → k < n → is_byte2 10 13 (get_or bytes k 0) ≡ true → ⊥) → HasNoEnd (take n bytes)
no_end_before bytes zero l h = refl
no_end_before [] (suc n) l h = refl
no_end_before (b ∷ bytes) (suc n) l h =
    let first : no_end b ≡ true = elim (which (is_byte2 10 13 b)) [ inl e ↦ absurd (h 0 (omega arith) e) | inr e ↦ ap not e ] in
    and_is (no_end b) (list_all no_end (take n bytes)) first (no_end_before bytes n (omega arith) (λ k m. h (suc k) (omega arith)))

comment_to : (text : List ℕ) (end : ℕ) → get_or text 0 0 ≡ 35 → IsFirstByte (is_byte2 10 13) text (Some end) → IsComment (take end text)
comment_to [] end e h = absurd (omega (arith, h.0.high))
comment_to (b ∷ text) zero e h = absurd (false_true (ap (is_byte2 10 13) (sym e) ∙ h.1))
comment_to (b ∷ text) (suc end) e h =
    inr (take end text, ap (λ (y : ℕ). y ∷ take end text) e, no_end_before text end (omega (arith, h.0.high)) (λ k m. h.0.before (suc k) (omega arith) (omega arith)))

take_whole : (text : List ℕ) → take (length text) text ≡ text
take_whole text = take-length text

comment_whole : (text : List ℕ) → get_or text 0 0 ≡ 35 → IsFirstByte (is_byte2 10 13) text None → IsComment text
comment_whole [] e h = absurd cc
comment_whole (b ∷ text) e h =
    inr (text, ap (λ (y : ℕ). y ∷ text) e, subst HasNoEnd (take_whole text) (no_end_before text (length text) (omega arith) (λ k m. h (suc k) (omega arith) (omega arith))))

pub comment_then : (text bytes : List ℕ) (end : ℕ) (rest : List ℕ) → bytes ≡ text → get_or bytes 0 0 ≡ 35 → IsFirstByte (is_byte2 10 13) bytes (Some end) → rest ≡ drop end text → IsCommentThen text rest
comment_then text bytes end rest same e h r = record {
  comment = take end text;
  parts = sym (take-append-drop end text) ∙ ap (λ (y : List ℕ). take end text ++ y) (sym r);
  is = comment_to text end (subst (λ (y : List ℕ). get_or y 0 0 ≡ 35) same e) (subst (λ (y : List ℕ). IsFirstByte (is_byte2 10 13) y (Some end)) same h);
}

pub comment_only : (text bytes : List ℕ) → bytes ≡ text → get_or bytes 0 0 ≡ 35 → IsFirstByte (is_byte2 10 13) bytes None → IsCommentThen text []
comment_only text bytes same e h = record {
  comment = text;
  parts = sym (append-nil text);
  is = comment_whole text (subst (λ (y : List ℕ). get_or y 0 0 ≡ 35) same e) (subst (λ (y : List ℕ). IsFirstByte (is_byte2 10 13) y None) same h);
}

-- ---- line ends

pub end_none : (text : List ℕ) → text ≡ [] → IsLineEndThen text text
end_none text e = subst (λ (y : List ℕ). IsLineEndThen y y) (sym e) at_text_end

pub end_lf : (text rest : List ℕ) → get_or text 0 0 ≡ 10 → rest ≡ drop 1 text → IsLineEndThen text rest
end_lf [] rest e r = absurd cc
end_lf (b ∷ text) rest e r = rw (e, r) lf

pub end_crlf : (text rest : List ℕ) → get_or text 0 0 ≡ 13 → get_or text 1 0 ≡ 10 → rest ≡ drop 2 text → IsLineEndThen text rest
end_crlf [] rest e f r = absurd cc
end_crlf (b ∷ []) rest e f r = absurd cc
end_crlf (b ∷ d ∷ text) rest e f r = rw (e, f, r) crlf

pub end_cr : (text rest : List ℕ) → get_or text 0 0 ≡ 13 → rest ≡ drop 1 text → begins_with_lf (drop 1 text) ≡ false → IsLineEndThen text rest
end_cr [] rest e r h = absurd cc
end_cr (b ∷ text) rest e r h = rw (e, r) (cr h)

pub no_lf : (text : List ℕ) → (get_or text 1 0 ≡ 10 → ⊥) → begins_with_lf (drop 1 text) ≡ false
no_lf [] h = refl
no_lf (b ∷ []) h = refl
no_lf (b ∷ d ∷ text) h = eqb_no d 10 h

pub too_short : (text : List ℕ) → length text ≤ 1 → begins_with_lf (drop 1 text) ≡ false
too_short [] l = refl
too_short (b ∷ []) l = refl
too_short (b ∷ d ∷ text) l = absurd (omega (arith, l))

-- ---- slices

front : (text : List ℕ) (end : ℕ) → slice_range text 0 end ≡ take end text
front text end = ap (λ (n : ℕ). take n text) (omega arith)

pub cut_is : (text bytes : List ℕ) (end : ℕ) (raw after rest : List ℕ) → bytes ≡ text → IsUtf8 text → EndsAt bytes end → HasNoEndIn bytes 0 end → raw ≡ slice_range text 0 end → after ≡ drop end text
    → IsBlanksThen after rest → IsCut text raw rest
cut_is text bytes end raw after rest same u h k f a b =
    let is : raw ≡ take end text = f ∙ front text end in
    let apart = apart_at text end u (subst (λ (y : List ℕ). EndsAt y end) same h) in record {
      after = after;
      parts = sym (take-append-drop end text) ∙ ap (λ (y : List ℕ). y ++ drop end text) (sym is) ∙ ap (λ (y : List ℕ). raw ++ y) (sym a);
      apart = subst (λ (y : List ℕ). IsApart y after) (sym is) (subst (IsApart (take end text)) (sym a) apart);
      kept = subst HasNoEnd (sym is) (take_kept text end (subst (λ (y : List ℕ). HasNoEndIn y 0 end) same k));
      blanks = b;
    }
