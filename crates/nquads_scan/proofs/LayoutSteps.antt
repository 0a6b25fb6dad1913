-- How a text is cut: the places where its slices end.
use Rattle.std.proofs.Common.{◌≡◌, ℕ, zero, suc, ◌+◌, ◌-◌, ◌≤◌, ◌<◌, Bool, true, false, eqb, List, [], ◌∷◌, ◌++◌, length, take, drop, get_or, Option, Some, None, refl, sym, ap, subst, ◌∙◌, lit<, length-append, arith, eq-eqb, inl, inr}
use Rattle.std.specs.Prelude.{◌&&◌, ◌||◌, option_copied}
use Rattle.std.specs.Str.{IsCharBoundary, IsUtf8}
use Rattle.std.proofs.Math.Seq.{take-suc}
use Rattle.std.proofs.lemmas.Bool.{cases_lt, eqb-true}
use Rattle.std.proofs.lemmas.List.{drop_all, drop_more}
use Rattle.std.proofs.lemmas.Str.{IsCharBoundary-after_ascii, IsCharBoundary-before_ascii, IsUtf8-take}
use Rattle.rdf_core.specs.Characters.{begins}
use Rattle.rdf_core.proofs.EscapeSteps.{which}
use Rattle.nquads_core.proofs.RunLaws.{or_parts}
use Rattle.nquads_core.specs.declared.slices.RawStatement.{RawStatement}
use Rattle.nquads_scan.specs.Ends.{ends_label, ends_tag, is_close, is_label_byte, is_tag_byte, EndsAt, IsApart}
use Rattle.nquads_scan.specs.Layout.{IsBlanksThen, IsCut, IsGraphCut, IsLineEndThen, at_text_end, lf, cr, crlf, IsLineThen, IsTail}
use Rattle.nquads_scan.proofs.ByteLaws.{label_byte, low_byte, low_tag}

-- ---- runs of bytes

-- no label goes on at a place where the text ends or has a byte that no label has
or_true : (a : Bool) → (a || true) ≡ true
or_true true = refl
or_true false = refl

pub label_over : (bytes : List ℕ) (at : ℕ) → (at < length bytes → is_label_byte (get_or bytes at 0) ≡ false) → ends_label (drop at bytes) ≡ true
label_over bytes at h =
    elim (cases_lt at (length bytes)) [
      | inl l ↦ rw (drop_more bytes at 0 l, h l) (or_true (eqb (get_or bytes at 0) 46 && ends_label (drop (at + 1) bytes)))
      | inr l ↦ rw (drop_all at bytes l) refl
    ]

pub tag_over : (bytes : List ℕ) (at : ℕ) → (at < length bytes → is_tag_byte (get_or bytes at 0) ≡ false) → ends_tag (drop at bytes) ≡ true
tag_over bytes at h =
    elim (cases_lt at (length bytes)) [ inl l ↦ rw (drop_more bytes at 0 l, h l) refl | inr l ↦ rw (drop_all at bytes l) refl ]

-- a label that ends after a dot ends before it
pub label_back : (bytes : List ℕ) (at : ℕ) → 0 < at → at ≤ length bytes → get_or bytes (at - 1) 0 ≡ 46 → ends_label (drop at bytes) ≡ true → ends_label (drop (at - 1) bytes) ≡ true
label_back bytes at p l e h =
    let next : drop (at - 1) bytes ≡ get_or bytes (at - 1) 0 ∷ drop (at - 1 + 1) bytes = drop_more bytes (at - 1) 0 (omega (arith, p, l)) in
    let same : at - 1 + 1 ≡ at = omega (arith, p) in
    rw (next, same, e, h) refl

-- ---- where a slice ends

begins_take : (bytes : List ℕ) (b end : ℕ) → 0 < end → end ≤ length bytes → get_or bytes 0 0 ≡ b → begins (λ x. eqb x b) (take end bytes) ≡ true
begins_take [] b end p l e = absurd (omega (arith, p, l))
begins_take (x ∷ bytes) b zero p l e = absurd (omega (arith, p))
begins_take (x ∷ bytes) b (suc end) p l e = eq-eqb x b e

low_close : (b : ℕ) → is_close b ≡ true → b < 128
low_close b h = elim (or_parts (eqb b 62) (eqb b 34) h) [ inl e ↦ rw (eqb-true b 62 e) (lit< tt) | inr e ↦ rw (eqb-true b 34 e) (lit< tt) ]

before : (n : ℕ) → 0 < n → n ≡ suc (n - 1)
before n h = omega (arith, h)

next : (n : ℕ) → 0 < n → n ≡ n - 1 + 1
next n h = omega (arith, h)

pub apart_at : (text : List ℕ) (end : ℕ) → IsUtf8 text → EndsAt text end → IsApart (take end text) (drop end text)
apart_at text end u (inl h) =
    let inside : end - 1 < length text = omega (arith, h.some, h.within) in
    let whole : take end text ≡ take (end - 1) text ++ get_or text (end - 1) 0 ∷ [] = ap (λ (n : ℕ). take n text) (before end h.some) ∙ take-suc text (end - 1) 0 inside in
    inl (take (end - 1) text, get_or text (end - 1) 0, whole, IsUtf8-take text (end - 1) u (IsCharBoundary-before_ascii text (end - 1) inside (low_close _ h.closed)), h.closed)
apart_at text end u (inr (inl h)) = inr (inl (begins_take text 95 end h.some h.within h.begins, h.ended))
apart_at text end u (inr (inr h)) = inr (inr (begins_take text 34 end h.some h.within h.begins, h.ended))

at_end : (text : List ℕ) (end : ℕ) → end ≤ length text → (end < length text → get_or text end 0 < 128) → IsCharBoundary text end
at_end text end l h =
    elim (cases_lt end (length text)) [
      | inl m ↦ IsCharBoundary-before_ascii text end m (h m)
      | inr m ↦ (l, λ k. absurd (omega (arith, k, m)))
    ]

label_low : (bytes : List ℕ) (at : ℕ) → ends_label (drop at bytes) ≡ true → at < length bytes → get_or bytes at 0 < 128
label_low bytes at h l =
    let b = get_or bytes at 0 in
    let here : ends_label (b ∷ drop (at + 1) bytes) ≡ true = rw (drop_more bytes at 0 l) at h in
    elim (which (eqb b 46)) [ inl e ↦ rw (eqb-true b 46 e) (lit< tt) | inr e ↦ low_byte b (label_byte b (drop (at + 1) bytes) here e) ]

tag_low : (bytes : List ℕ) (at : ℕ) → ends_tag (drop at bytes) ≡ true → at < length bytes → get_or bytes at 0 < 128
tag_low bytes at h l = low_tag (get_or bytes at 0) (rw (drop_more bytes at 0 l) at h)

pub boundary_at : (text : List ℕ) (end : ℕ) → IsUtf8 text → EndsAt text end → IsCharBoundary text end
boundary_at text end u (inl h) =
    subst (IsCharBoundary text) (sym (next end h.some)) (IsCharBoundary-after_ascii text (end - 1) u (omega (arith, h.some, h.within)) (low_close _ h.closed))
boundary_at text end u (inr (inl h)) = at_end text end h.within (label_low text end h.ended)
boundary_at text end u (inr (inr h)) = at_end text end h.within (tag_low text end h.ended)

-- ---- lengths

blanks_short : (text rest : List ℕ) → IsBlanksThen text rest → length rest ≤ length text
blanks_short text rest b = omega (arith, ap length b.parts, length-append b.blanks rest)

cut_short : (text raw rest : List ℕ) → IsCut text raw rest → length rest ≤ length text
cut_short text raw rest c = omega (arith, ap length c.parts, length-append raw c.after, blanks_short c.after rest c.blanks)

graph_less : (graph : Option (List ℕ)) (text rest : List ℕ) → IsGraphCut graph text rest → length rest < length text
graph_less None text rest c = omega (arith, ap length c)
graph_less (Some raw) text rest c = omega (arith, cut_short text raw (46 ∷ rest) c)

eol_less : (text rest : List ℕ) → IsLineEndThen text rest → 0 < length text → length rest < length text
eol_less text rest at_text_end l = l
eol_less text rest lf l = omega arith
eol_less text rest (cr h) l = omega arith
eol_less text rest crlf l = omega arith

eol_short : (text rest : List ℕ) → IsLineEndThen text rest → length rest ≤ length text
eol_short text rest at_text_end = omega arith
eol_short text rest lf = omega arith
eol_short text rest (cr h) = omega arith
eol_short text rest crlf = omega arith

tail_short : (text rest : List ℕ) → IsTail text rest → length rest ≤ length text
tail_short text rest t =
    omega (arith, blanks_short text t.comment t.first, ap length t.second.parts, length-append t.second.comment t.eol, eol_short t.eol rest t.third)

tail_less : (text rest : List ℕ) → IsTail text rest → 0 < length text → length rest < length text
tail_less text rest t l =
    let a = blanks_short text t.comment t.first in
    let b = ap length t.second.parts in
    let c = length-append t.second.comment t.eol in
    elim (cases_lt 0 (length t.eol)) [
      | inl k ↦ omega (arith, a, b, c, eol_less t.eol rest t.third k)
      | inr k ↦ omega (arith, k, l, eol_short t.eol rest t.third)
    ]

pub line_less : (text : List ℕ) (statement : Option RawStatement) (rest : List ℕ) → IsLineThen text statement rest → 0 < length text → length rest < length text
line_less text None rest t l = tail_less text rest t l
line_less text (Some raw) rest h l =
    let b = h.layout in
    omega (
      arith,
      blanks_short text h.start h.lead,
      cut_short h.start raw.subject.now b.predicate b.s,
      cut_short b.predicate raw.predicate.now b.object b.p,
      cut_short b.object raw.object.now b.graph b.o,
      graph_less (option_copied raw.graph) b.graph h.tail b.g,
      tail_short h.tail rest h.end,
    )
