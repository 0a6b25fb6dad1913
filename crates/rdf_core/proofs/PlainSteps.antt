-- A run of unescaped bytes writes the characters that it encodes.
use Rattle.std.proofs.Common.{◌≡◌, ℕ, ◌+◌, ◌-◌, ◌<◌, ◌≤◌, Bool, true, eqb, List, [], ◌∷◌, ◌++◌, length, take, drop, get_or, refl, sym, ap, subst, ◌∙◌, ◌&&◌, arith, inl, inr, not}
use Rattle.std.specs.List.{list_all, slice_range}
use Rattle.std.specs.Char.{encode_utf8}
use Rattle.std.specs.Str.{IsUtf8, IsCharBoundary, chars, encode_utf8_all}
use Rattle.std.proofs.lemmas.Bool.{cases_lt}
use Rattle.std.proofs.lemmas.Bool.Decides.{nat_tests}
use Rattle.std.proofs.Math.Seq.{take-add}
use Rattle.std.proofs.lemmas.List.{take-append-drop, drop_more}
use Rattle.std.proofs.lemmas.List.Folds.{list_all-append}
use Rattle.std.proofs.lemmas.Str.{encode_ascii, encodes-chars, chars-append, chars_past_char, IsUtf8-take, IsUtf8-drop, IsCharBoundary-before_ascii, IsCharBoundary-after_ascii}
use Rattle.rdf_core.specs.declared.lexical.escapes.Inside.{Inside}
use Rattle.rdf_core.specs.declared.lexical.escapes.Inside.TheVariants.{Iri, Quoted, Any}
use Rattle.rdf_core.specs.Characters.{is_iri_char, is_string_char}
use Rattle.rdf_core.specs.Escapes.{Writes, IsPart, IsEnclosed}
use Rattle.rdf_core.specs.LexicalReading.{is_raw, IsPlain}
use Rattle.rdf_core.proofs.EscapeSteps.{eqb_no}
use Rattle.rdf_core.proofs.EscapeLaws.{and_parts}
use Rattle.rdf_core.proofs.EnclosedLaws.{raw_part}

-- a character above 127 may occur unescaped in every kind of text
high_iri : (c : ℕ) → 128 ≤ c → is_iri_char c ≡ true
high_iri c h = grind (arith, nat_tests)

high_string : (c : ℕ) → 128 ≤ c → is_string_char c ≡ true
high_string c h = grind (arith, nat_tests)

high_any : (c : ℕ) → 128 ≤ c → not (eqb c 92) ≡ true
high_any c h = ap not (eqb_no c 92 (λ e. absurd (omega (arith, h, e))))

high_raw : (k : Inside) (c : ℕ) → 128 ≤ c → is_raw k c ≡ true
high_raw Iri c h = high_iri c h
high_raw Quoted c h = high_string c h
high_raw Any c h = high_any c h

all_after : (p : ℕ → Bool) (xs ys : List ℕ) → list_all p (xs ++ ys) ≡ true → list_all p ys ≡ true
all_after p [] ys h = h
all_after p (x ∷ xs) ys h = all_after p xs ys (and_parts (p x) (list_all p (xs ++ ys)) h).1

first_raw : (k : Inside) (c : ℕ) (rest : List ℕ) → list_all (is_raw k) (encode_utf8 c ++ rest) ≡ true → is_raw k c ≡ true
first_raw k c rest h =
    elim (cases_lt c 128) [
      | inl l ↦ (and_parts (is_raw k c) (list_all (is_raw k) rest) (subst (λ (y : List ℕ). list_all (is_raw k) (y ++ rest) ≡ true) (encode_ascii c l) h)).0
      | inr l ↦ high_raw k c l
    ]

-- unescaped bytes encode unescaped characters, each of which writes itself
pub raw_writes : (k : Inside) (cs : List ℕ) → list_all (is_raw k) (encode_utf8_all cs) ≡ true → Writes (IsPart k) cs cs
raw_writes k [] h = refl
raw_writes k (c ∷ cs) h =
    (c ∷ [], cs, refl, raw_part k c (first_raw k c (encode_utf8_all cs) h), raw_writes k cs (all_after (is_raw k) (encode_utf8 c) (encode_utf8_all cs) h))

pub plain_enclosed : (k : Inside) (close : ℕ) (text front rest : List ℕ) → close < 128 → IsPlain k close text front rest → IsEnclosed (IsPart k) close (chars text) front (chars rest)
plain_enclosed k close text front rest l h =
    let bytes = encodes-chars front h.front_utf8 in
    let remaining : IsUtf8 (close ∷ rest) = h.tail_utf8 in
    let sign : close ∷ rest ≡ encode_utf8 close ++ rest = ap (λ (y : List ℕ). y ++ rest) (sym (encode_ascii close l)) in
    record {
      body = chars front;
      parts = ap chars h.parts ∙ chars-append front (close ∷ rest) h.front_utf8 ∙ ap (λ (y : List ℕ). chars front ++ y) (chars_past_char (close ∷ rest) rest close remaining sign);
      written = record { chars = chars front; writes = raw_writes k (chars front) (subst (λ (y : List ℕ). list_all (is_raw k) y ≡ true) (sym bytes) h.raw); utf8 = sym bytes };
    }

-- ---- the end of a run of unescaped bytes

-- one more block of bytes that all pass
pub block_more : (p : ℕ → Bool) (bytes : List ℕ) (from to : ℕ) → from ≤ to → list_all p (take from bytes) ≡ true → list_all p (slice_range bytes from to) ≡ true → list_all p (take to bytes) ≡ true
block_more p bytes from to rising front block =
    let n : from + (to - from) ≡ to = omega arith in
    ap (λ (k : ℕ). list_all p (take k bytes)) (sym n) ∙ ap (list_all p) (take-add from (to - from) bytes)
    ∙ list_all-append p (take from bytes) (slice_range bytes from to) ∙ (λ i. front i && block i)

pub plain_at : (k : Inside) (close : ℕ) (text : List ℕ) (end : ℕ) → IsUtf8 text → end < length text → close < 128 → get_or text end 0 ≡ close → list_all (is_raw k) (take end text) ≡ true → IsPlain k close text (take end text) (drop (end + 1) text)
plain_at k close text end u l low e raw =
    let ascii : get_or text end 0 < 128 = rw e low in
    let from = IsCharBoundary-before_ascii text end l ascii in
    record {
      parts = sym (take-append-drop end text) ∙ ap (λ (y : List ℕ). take end text ++ y) (drop_more text end 0 l ∙ ap (λ (y : ℕ). y ∷ drop (end + 1) text) e);
      front_utf8 = IsUtf8-take text end u from;
      tail_utf8 = subst IsUtf8 (drop_more text end 0 l ∙ ap (λ (y : ℕ). y ∷ drop (end + 1) text) e) (IsUtf8-drop text end u from);
      rest_utf8 = IsUtf8-drop text (end + 1) u (IsCharBoundary-after_ascii text end u l ascii);
      raw = raw;
    }

abbrev pub EndsAt : Inside → ℕ → List ℕ → ℕ → Type 0
EndsAt k close bytes end = (end < length bytes) × (get_or bytes end 0 ≡ close) × (list_all (is_raw k) (take end bytes) ≡ true)

pub before_sign : (k : Inside) (close : ℕ) (text bytes : List ℕ) (end : ℕ) → bytes ≡ text → IsUtf8 text → close < 128 → EndsAt k close bytes end → IsCharBoundary text end
before_sign k close text bytes end e u low h =
    let t : EndsAt k close text end = subst (λ (y : List ℕ). EndsAt k close y end) e h in
    IsCharBoundary-before_ascii text end t.0 (rw t.1 low)

pub after_sign : (k : Inside) (close : ℕ) (text bytes : List ℕ) (end : ℕ) → bytes ≡ text → IsUtf8 text → close < 128 → EndsAt k close bytes end → IsCharBoundary text (end + 1)
after_sign k close text bytes end e u low h =
    let t : EndsAt k close text end = subst (λ (y : List ℕ). EndsAt k close y end) e h in
    IsCharBoundary-after_ascii text end u t.0 (rw t.1 low)

pub plain_found : (k : Inside) (close : ℕ) (text bytes : List ℕ) (end : ℕ) → bytes ≡ text → IsUtf8 text → close < 128 → EndsAt k close bytes end → IsPlain k close text (slice_range text 0 end) (drop (end + 1) text)
plain_found k close text bytes end e u low h =
    let t : EndsAt k close text end = subst (λ (y : List ℕ). EndsAt k close y end) e h in
    let front : slice_range text 0 end ≡ take end text = (let n : end - 0 ≡ end = omega arith in rw n refl) in
    rw front (plain_at k close text end u t.0 low t.1 t.2)
