-- The characters of texts that begin with ASCII bytes.
use Rattle.std.proofs.Common.{◌≡◌, ℕ, zero, suc, ◌<◌, Bool, true, false, eqb, List, [], ◌∷◌, ◌++◌, length, refl, sym, ap, subst, ◌∙◌, arith, lit<, length-append, inl, inr}
use Rattle.std.specs.Prelude.{◌&&◌, ◌||◌, not}
use Rattle.std.specs.List.{list_all}
use Rattle.std.specs.Char.{is_ascii_alphanumeric}
use Rattle.std.specs.Str.{IsAscii, IsUtf8, chars}
use Rattle.std.proofs.lemmas.Bool.{eqb-true}
use Rattle.std.proofs.lemmas.Bool.Decides.{nat_tests}
use Rattle.std.proofs.lemmas.List.{drop_at}
use Rattle.std.proofs.Math.Seq.{take-append_seam}
use Rattle.std.proofs.lemmas.Str.{chars-IsAscii, chars-append, chars-nil, encode_ascii, IsCharBoundary-from_take, IsUtf8-drop, IsUtf8-from_ascii, IsUtf8-past_char}
use Rattle.rdf_core.specs.Characters.{begins, is_label_char, is_label_start, is_name_start, is_pn_chars_base}
use Rattle.rdf_core.proofs.EscapeSteps.{which}
use Rattle.rdf_core.proofs.EscapeLaws.{and_parts}
use Rattle.nquads_core.specs.Terminal.{is_blank}
use Rattle.nquads_core.proofs.RunLaws.{or_no, or_parts}
use Rattle.nquads_scan.specs.Ends.{ends_label, ends_tag, is_close, is_label_byte, is_tag_byte, IsApart}
use Rattle.nquads_scan.proofs.EndLaws.{label_stops, tag_stops}

-- ---- one ASCII byte

one_ascii : (b : ℕ) → b < 128 → IsAscii (b ∷ [])
one_ascii b l zero = l
one_ascii b l (suc i) = lit< tt

pub one_utf8 : (b : ℕ) → b < 128 → IsUtf8 (b ∷ [])
one_utf8 b l = IsUtf8-from_ascii (b ∷ []) (one_ascii b l)

pub chars_cons : (b : ℕ) (bytes : List ℕ) → b < 128 → chars (b ∷ bytes) ≡ b ∷ chars bytes
chars_cons b bytes l = chars-append (b ∷ []) bytes (one_utf8 b l) ∙ ap (λ (y : List ℕ). y ++ chars bytes) (chars-IsAscii (b ∷ []) (one_ascii b l))

pub utf8_cons : (b : ℕ) (bytes : List ℕ) → b < 128 → IsUtf8 (b ∷ bytes) → IsUtf8 bytes
utf8_cons b bytes l u = IsUtf8-past_char (b ∷ bytes) bytes b u (ap (λ (y : List ℕ). y ++ bytes) (sym (encode_ascii b l)))

-- what follows a text in a text
pub utf8_after : (xs ys : List ℕ) → IsUtf8 (xs ++ ys) → IsUtf8 xs → IsUtf8 ys
utf8_after xs ys u v =
    let boundary = IsCharBoundary-from_take (xs ++ ys) (length xs) u (omega (arith, length-append xs ys)) (subst IsUtf8 (sym (take-append_seam xs ys)) v) in
    subst IsUtf8 (drop_at xs ys (length xs) refl) (IsUtf8-drop (xs ++ ys) (length xs) u boundary)

-- ---- blanks

pub blank_ascii : (b : ℕ) → is_blank b ≡ true → b < 128
blank_ascii b h =
    elim (or_parts (eqb b 32) (eqb b 9) h) [ inl e ↦ rw (eqb-true b 32 e) (lit< tt) | inr e ↦ rw (eqb-true b 9 e) (lit< tt) ]

pub chars_blanks : (blanks rest : List ℕ) → list_all is_blank blanks ≡ true → chars (blanks ++ rest) ≡ blanks ++ chars rest
chars_blanks [] rest h = refl
chars_blanks (b ∷ blanks) rest h =
    let p = and_parts (is_blank b) (list_all is_blank blanks) h in
    chars_cons b (blanks ++ rest) (blank_ascii b p.0) ∙ ap (λ (y : List ℕ). b ∷ y) (chars_blanks blanks rest p.1)

-- ---- where a slice ends

not_false : (b : Bool) → not b ≡ true → b ≡ false
not_false true h = absurd cc
not_false false h = refl

pub low_byte : (b : ℕ) → is_label_byte b ≡ false → b < 128
low_byte b h = grind (arith, nat_tests)

no_dot : (b : ℕ) → is_label_byte b ≡ false → eqb b 46 ≡ false
no_dot b h = grind (arith, nat_tests)

no_label_char : (b : ℕ) → is_label_byte b ≡ false → is_label_char b ≡ false
unfolding is_label_char is_label_start is_name_start is_pn_chars_base
no_label_char b h = grind (arith, nat_tests)

-- the byte after which no label goes on is a dot, or in no label
pub label_byte : (b : ℕ) (bytes : List ℕ) → ends_label (b ∷ bytes) ≡ true → eqb b 46 ≡ false → is_label_byte b ≡ false
label_byte b bytes h e = not_false (is_label_byte b) (or_no (eqb b 46 && ends_label bytes) (not (is_label_byte b)) h (rw e refl))

dot_ends : (bytes : List ℕ) → ends_label (46 ∷ bytes) ≡ true → ends_label bytes ≡ true
dot_ends bytes h = elim (or_parts (ends_label bytes) false h) [ inl e ↦ e | inr e ↦ absurd cc ]

label_chars : (bytes : List ℕ) → IsUtf8 bytes → ends_label bytes ≡ true → label_stops (chars bytes) ≡ true
label_chars [] u h = rw chars-nil refl
label_chars (b ∷ bytes) u h =
    elim (which (eqb b 46)) [
      | inl e ↦
          let dots : ends_label bytes ≡ true = dot_ends bytes (subst (λ (y : ℕ). ends_label (y ∷ bytes) ≡ true) (eqb-true b 46 e) h) in
          let low : b < 128 = rw (eqb-true b 46 e) (lit< tt) in
          rw (chars_cons b bytes low, e) (label_chars bytes (utf8_cons b bytes low u) dots)
      | inr e ↦
          let no = label_byte b bytes h e in
          rw (chars_cons b bytes (low_byte b no), e, no_label_char b no) refl
    ]

pub low_tag : (b : ℕ) → not (is_tag_byte b) ≡ true → b < 128
low_tag b h = grind (arith, nat_tests)

no_tag_char : (b : ℕ) → not (is_tag_byte b) ≡ true → not (is_ascii_alphanumeric b || eqb b 45) ≡ true
no_tag_char b h = grind (arith, nat_tests)

tag_chars : (bytes : List ℕ) → ends_tag bytes ≡ true → tag_stops (chars bytes) ≡ true
tag_chars [] h = rw chars-nil refl
tag_chars (b ∷ bytes) h = rw (chars_cons b bytes (low_tag b h)) (no_tag_char b h)

-- ---- a slice and what follows it

-- the characters of a slice and of what follows it: the slice is closed, or its last terminal does not go on
pub data IsApartHere (cs rest : List ℕ) : Type 0 where
  by_close : (front : List ℕ) (close : ℕ) → cs ≡ front ++ close ∷ [] → is_close close ≡ true → IsApartHere cs rest
  by_label : (more : List ℕ) → cs ≡ 95 ∷ more → label_stops rest ≡ true → IsApartHere cs rest
  by_tag : (more : List ℕ) → cs ≡ 34 ∷ more → tag_stops rest ≡ true → IsApartHere cs rest

close_low : (b : ℕ) → is_close b ≡ true → b < 128
close_low b h = elim (or_parts (eqb b 62) (eqb b 34) h) [ inl e ↦ rw (eqb-true b 62 e) (lit< tt) | inr e ↦ rw (eqb-true b 34 e) (lit< tt) ]

begins_chars : (b : ℕ) (raw : List ℕ) → b < 128 → begins (λ x. eqb x b) raw ≡ true → (more : List ℕ) × (chars raw ≡ b ∷ more)
begins_chars b [] l h = absurd cc
begins_chars b (x ∷ raw) l h = (chars raw, ap (λ (y : ℕ). chars (y ∷ raw)) (eqb-true x b h) ∙ chars_cons b raw l)

pub apart_here : (raw after : List ℕ) → IsUtf8 after → IsApart raw after → IsApartHere (chars raw) (chars after)
apart_here raw after u (inl h) =
    let low = close_low h.1 h.4 in
    by_close (chars h.0) h.1 (ap chars h.2 ∙ chars-append h.0 (h.1 ∷ []) h.3 ∙ ap (λ (y : List ℕ). chars h.0 ++ y) (chars_cons h.1 [] low ∙ ap (λ (y : List ℕ). h.1 ∷ y) chars-nil)) h.4
apart_here raw after u (inr (inl h)) = let b = begins_chars 95 raw (lit< tt) h.0 in by_label b.0 b.1 (label_chars after u h.1)
apart_here raw after u (inr (inr h)) = let b = begins_chars 34 raw (lit< tt) h.0 in by_tag b.0 b.1 (tag_chars after h.1)

-- a slice is apart from the front of what it is apart from
or_right : (a b : Bool) → b ≡ true → (a || b) ≡ true
or_right true b h = refl
or_right false b h = h

label_front : (xs ys : List ℕ) → ends_label (xs ++ ys) ≡ true → ends_label xs ≡ true
label_front [] ys h = refl
label_front (b ∷ xs) ys h =
    elim (or_parts (eqb b 46 && ends_label (xs ++ ys)) (not (is_label_byte b)) h) [
      | inl k ↦ let p = and_parts (eqb b 46) (ends_label (xs ++ ys)) k in rw (p.0, label_front xs ys p.1) refl
      | inr k ↦ or_right (eqb b 46 && ends_label xs) (not (is_label_byte b)) k
    ]

tag_front : (xs ys : List ℕ) → ends_tag (xs ++ ys) ≡ true → ends_tag xs ≡ true
tag_front [] ys h = refl
tag_front (b ∷ xs) ys h = h

pub apart_front : (raw xs ys : List ℕ) → IsApart raw (xs ++ ys) → IsApart raw xs
apart_front raw xs ys (inl h) = inl h
apart_front raw xs ys (inr (inl h)) = inr (inl (h.0, label_front xs ys h.1))
apart_front raw xs ys (inr (inr h)) = inr (inr (h.0, tag_front xs ys h.1))
