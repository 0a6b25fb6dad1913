-- Texts that follow each other.
use Rattle.std.proofs.Common.{◌≡◌, ℕ, zero, suc, ◌<◌, ◌≤◌, List, [], ◌∷◌, ◌++◌, length, get_or, drop, take, slice_get, Some, refl, sym, ap, ◌∙◌, subst, arith}
use Rattle.std.proofs.lemmas.List.{take-append-le, drop_at, length-take-le, take-append-drop}
use Rattle.std.proofs.lemmas.Slice.{between_is, between_to_end}
use Rattle.std.specs.Prelude.{slice_range}
use Rattle.text_dict.specs.Texts.{AreEnds, texts_after}

pub length_texts : (bytes : List ℕ) (start : ℕ) (ends : List ℕ) → length (texts_after bytes start ends) ≡ length ends
length_texts bytes start [] = refl
length_texts bytes start (e ∷ ends) = ap suc (length_texts bytes e ends)

pub start_low : (start : ℕ) (ends : List ℕ) (last : ℕ) → AreEnds start ends last → start ≤ last
start_low start [] last h = omega (arith, h)
start_low start (e ∷ ends) last h = let r = start_low e ends last h.1 in omega (arith, h.0, r)

pub text_bounds : (start : ℕ) (ends : List ℕ) (last n : ℕ) → AreEnds start ends last → n < length ends
    → (get_or (start ∷ ends) n 0 ≤ get_or ends n 0) × (get_or ends n 0 ≤ last)
text_bounds start [] last n h low = absurd (omega arith)
text_bounds start (e ∷ ends) last zero h low = (h.0, start_low e ends last h.1)
text_bounds start (e ∷ ends) last (suc n) h low = text_bounds e ends last n h.1 (omega arith)

pub text_get : (bytes : List ℕ) (start : ℕ) (ends : List ℕ) (n : ℕ) → n < length ends
    → slice_get (texts_after bytes start ends) n ≡ Some (slice_range bytes (get_or (start ∷ ends) n 0) (get_or ends n 0))
text_get bytes start [] n low = absurd (omega arith)
text_get bytes start (e ∷ ends) zero low = refl
text_get bytes start (e ∷ ends) (suc n) low = text_get bytes e ends n (omega arith)

part_kept : (bytes t : List ℕ) (a b : ℕ) → b ≤ length bytes → slice_range (bytes ++ t) a b ≡ slice_range bytes a b
part_kept bytes t a b low = between_is (bytes ++ t) a b ∙ ap (drop a) (take-append-le b bytes t low) ∙ sym (between_is bytes a b)

last_part : (bytes t : List ℕ) → slice_range (bytes ++ t) (length bytes) (length (bytes ++ t)) ≡ t
last_part bytes t = between_to_end (bytes ++ t) (length bytes) (length (bytes ++ t)) (omega arith) ∙ drop_at bytes t (length bytes) refl

pub texts_pushed : (bytes t : List ℕ) (start : ℕ) (ends : List ℕ) → AreEnds start ends (length bytes)
    → texts_after (bytes ++ t) start (ends ++ length (bytes ++ t) ∷ []) ≡ texts_after bytes start ends ++ t ∷ []
texts_pushed bytes t start [] h = ap (λ x. x ∷ []) (ap (λ a. slice_range (bytes ++ t) a (length (bytes ++ t))) h ∙ last_part bytes t)
texts_pushed bytes t start (e ∷ ends) h = λ i. part_kept bytes t start e (start_low e ends (length bytes) h.1) i ∷ texts_pushed bytes t e ends h.1 i

pub ends_pushed : (start : ℕ) (ends : List ℕ) (last more : ℕ) → AreEnds start ends last → last ≤ more → AreEnds start (ends ++ more ∷ []) more
ends_pushed start [] last more h low = (omega (arith, h, low), refl)
ends_pushed start (e ∷ ends) last more h low = (h.0, ends_pushed e ends last more h.1 low)

-- ---- the first texts alone

ends_cut : (start : ℕ) (ends : List ℕ) (last n : ℕ) → AreEnds start ends last → n < length ends → AreEnds start (take n ends) (get_or (start ∷ ends) n 0)
ends_cut start [] last n h low = absurd (omega arith)
ends_cut start (e ∷ ends) last zero h low = refl
ends_cut start (e ∷ ends) last (suc n) h low = (h.0, ends_cut e ends last n h.1 (omega arith))

texts_kept : (bytes t : List ℕ) (start : ℕ) (ends : List ℕ) → AreEnds start ends (length bytes) → texts_after (bytes ++ t) start ends ≡ texts_after bytes start ends
texts_kept bytes t start [] h = refl
texts_kept bytes t start (e ∷ ends) h = λ i. part_kept bytes t start e (start_low e ends (length bytes) h.1) i ∷ texts_kept bytes t e ends h.1 i

texts_taken : (bytes : List ℕ) (start : ℕ) (ends : List ℕ) (n : ℕ) → texts_after bytes start (take n ends) ≡ take n (texts_after bytes start ends)
texts_taken bytes start ends zero = refl
texts_taken bytes start [] (suc n) = refl
texts_taken bytes start (e ∷ ends) (suc n) = ap (λ x. slice_range bytes start e ∷ x) (texts_taken bytes e ends n)

texts_cut : (bytes : List ℕ) (ends : List ℕ) (n : ℕ) → AreEnds 0 ends (length bytes) → n < length ends
    → texts_after (take (get_or (0 ∷ ends) n 0) bytes) 0 (take n ends) ≡ take n (texts_after bytes 0 ends)
texts_cut bytes ends n h low =
    let end = get_or (0 ∷ ends) n 0 in
    let cut = ends_cut 0 ends (length bytes) n h low in
    let bounds = text_bounds 0 ends (length bytes) n h low in
    let within : end ≤ length bytes = omega (arith, bounds.0, bounds.1) in
    let long : length (take end bytes) ≡ end = length-take-le end bytes within in
    sym (texts_kept (take end bytes) (drop end bytes) 0 (take n ends) (subst (AreEnds 0 (take n ends)) (sym long) cut))
    ∙ ap (λ b. texts_after b 0 (take n ends)) (take-append-drop end bytes)
    ∙ texts_taken bytes 0 ends n

pub truncated : (bytes bytes' ends ends' : List ℕ) (n start : ℕ) → AreEnds 0 ends (length bytes) → n < length ends → start ≡ get_or (0 ∷ ends) n 0 → bytes' ≡ take start bytes → ends' ≡ take n ends
    → AreEnds 0 ends' (length bytes') × (texts_after bytes' 0 ends' ≡ take n (texts_after bytes 0 ends))
truncated bytes bytes' ends ends' n start h low s b e =
    let end = get_or (0 ∷ ends) n 0 in
    let bounds = text_bounds 0 ends (length bytes) n h low in
    let cut : bytes' ≡ take end bytes = b ∙ ap (λ (k : ℕ). take k bytes) s in
    let long : length bytes' ≡ end = ap length cut ∙ length-take-le end bytes (omega (arith, bounds.0, bounds.1)) in (
      subst (λ es. AreEnds 0 es (length bytes')) (sym e) (subst (AreEnds 0 (take n ends)) (sym long) (ends_cut 0 ends (length bytes) n h low)),
      (λ i. texts_after (cut i) 0 (e i)) ∙ texts_cut bytes ends n h low,
    )
