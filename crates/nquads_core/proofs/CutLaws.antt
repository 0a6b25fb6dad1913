-- A text cut at an ASCII byte that a search found in its bytes.
use Rattle.std.proofs.Common.{◌≡◌, ℕ, ◌+◌, ◌-◌, ◌<◌, true, eqb, Option, refl, List, [], ◌∷◌, length, take, drop, get_or, slice_range, Some, None, arith, sym, ap, subst, ◌∙◌, inl, inr}
use Rattle.std.specs.Str.{IsUtf8, IsCharBoundary}
use Rattle.std.proofs.lemmas.Bool.{eqb-true, cases_lt}
use Rattle.std.proofs.lemmas.List.{get_or-drop, get_or_past, get_or-take, length-drop, length-take-le, take_rest}
use Rattle.std.proofs.lemmas.Str.{IsCharBoundary-after_ascii}
use Rattle.memchr.specs.Find.{is_byte, is_byte2, IsFirstByte}
use Rattle.nquads_core.specs.Lines.{lines}
use Rattle.nquads_core.specs.LineCuts.{HasNoCr, IsOneLine}
use Rattle.nquads_core.proofs.RunLaws.{or_parts}
use Rattle.nquads_core.proofs.Meaning.{none_ends}
use Rattle.nquads_core.proofs.PieceLaws.{EndsAt, no_ends, one_line, lf_line, lines_nil}

-- a byte that is not 0 is one of the text
inside : (text : List ℕ) (i b : ℕ) → get_or text i 0 ≡ b → 0 < b → i < length text
inside text i b e p = elim (cases_lt i (length text)) [ inl l ↦ l | inr l ↦ absurd (omega (arith, e, get_or_past text i 0 l, p)) ]

pub after_byte : (text : List ℕ) (i b : ℕ) → IsUtf8 text → get_or text i 0 ≡ b → 0 < b → b < 128 → IsCharBoundary text (i + 1)
after_byte text i b u e p a = IsCharBoundary-after_ascii text i u (inside text i b e p) (omega (arith, e))

-- ---- line ends

-- in a text without CR the first LF is the first line end
first_end : (text : List ℕ) (found : Option ℕ) → HasNoCr text → IsFirstByte (is_byte 10) text found → IsFirstByte (is_byte2 10 13) text found
first_end text None n h = λ k l m t.
    elim (or_parts (eqb (get_or text k 0) 10) (eqb (get_or text k 0) 13) t) [ inl e ↦ h k l m e | inr e ↦ n k m (eqb-true _ 13 e) ]
first_end text (Some end) n h = (
  record {
    low = h.0.low;
    high = h.0.high;
    before = λ k l m t. elim (or_parts (eqb (get_or text k 0) 10) (eqb (get_or text k 0) 13) t) [ inl e ↦ h.0.before k l m e | inr e ↦ n k (omega (arith, m, h.0.high)) (eqb-true _ 13 e) ];
  },
  rw (h.1) refl,
)

found_in : (text bytes : List ℕ) (found : Option ℕ) → bytes ≡ text → HasNoCr text → IsFirstByte (is_byte 10) bytes found → IsFirstByte (is_byte2 10 13) text found
found_in text bytes found same n h = first_end text found n (subst (λ (y : List ℕ). IsFirstByte (is_byte 10) y found) same h)

ends_at : (text : List ℕ) (end : ℕ) → IsFirstByte (is_byte2 10 13) text (Some end) → EndsAt text end
ends_at text end h = record { inside = h.0.high; before = no_ends text end (omega (arith, h.0.high)) (λ k l. h.0.before k (omega arith) l); byte = h.1 }

pub only_line : (text bytes : List ℕ) → bytes ≡ text → HasNoCr text → 0 < length text → IsFirstByte (is_byte 10) bytes None → (lines text ≡ text ∷ lines []) × IsOneLine text
only_line text bytes same n l h =
    let none = found_in text bytes None same n h in
    (one_line text l (λ k m. none k (omega arith) m) ∙ ap (λ (y : List (List ℕ)). text ∷ y) (sym lines_nil), none_ends text none)

lf_at : (text bytes : List ℕ) (end : ℕ) → bytes ≡ text → IsFirstByte (is_byte 10) bytes (Some end) → get_or text end 0 ≡ 10
lf_at text bytes end same h = sym (ap (λ (y : List ℕ). get_or y end 0) same) ∙ eqb-true _ 10 h.1

front : (text : List ℕ) (end : ℕ) → slice_range text 0 end ≡ take end text
front text end = ap (λ (n : ℕ). take n text) (omega arith)

pub cut_lf : (text bytes : List ℕ) (end : ℕ) (line rest : List ℕ) → bytes ≡ text → HasNoCr text → IsFirstByte (is_byte 10) bytes (Some end) → line ≡ slice_range text 0 end → rest ≡ drop (end + 1) text → (lines text ≡ line ∷ lines rest) × IsOneLine line
cut_lf text bytes end line rest same n h f r =
    let found = found_in text bytes (Some end) same n h in
    let short : length (take end text) ≡ end = length-take-le end text (omega (arith, found.0.high)) in
    let clean = none_ends (take end text) (λ k l m t.
    let below : k < end = omega (arith, m, short) in
    found.0.before k l below (subst (λ (y : ℕ). is_byte2 10 13 y ≡ true) (get_or-take end text k 0 below) t)) in (
      lf_line text end rest (ends_at text end found) (lf_at text bytes end same h) r ∙ ap (λ (y : List ℕ). y ∷ lines rest) (sym (f ∙ front text end)),
      subst IsOneLine (sym (f ∙ front text end)) clean,
    )
