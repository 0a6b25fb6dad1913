-- Literals that are rewritten to their canonical texts.
use Rattle.std.proofs.Common.{◌≡◌, ◌⊎◌, ℕ, zero, suc, ◌-◌, ◌<◌, ◌≤◌, Bool, true, false, eqb, List, [], ◌∷◌, ◌++◌, length, take, drop, get_or, slice_range, Option, Some, None, Result, Ok, Err, if◌then◌else◌, refl, sym, ap, ap₂, subst, ◌∙◌, append_assoc, append-nil, length-append, length-drop, arith, lit<, inl, inr}
use Rattle.std.specs.Prelude.{◌&&◌, ◌||◌, is_ok, not, OnOk}
use Rattle.std.specs.Char.{encode_utf8, is_ascii_digit, is_ascii_lowercase, IsScalar}
use Rattle.std.specs.List.{flat_map, list_all}
use Rattle.std.specs.Option.{IfSome, SomeIff}
use Rattle.std.specs.Str.{IsUtf8, chars}
use Rattle.std.proofs.lemmas.Bool.{cases_lt, eqb-true}
use Rattle.std.proofs.lemmas.Bool.Decides.{nat_tests}
use Rattle.std.proofs.lemmas.List.{length-take-le, nil_from_length, take-append-drop}
use Rattle.std.proofs.lemmas.List.Concat.{flat_map-append}
use Rattle.std.proofs.lemmas.Str.{chars-append, chars-nil, encode_ascii, encodes-append, encodes-chars, inside_one, IsCharBoundary-before_ascii, IsUtf8-drop, IsUtf8-take}
use Rattle.rdf_core.specs.declared.lexical.escapes.Inside.TheVariants as inside
use Rattle.rdf_core.specs.declared.term.Term.{Term}
use Rattle.rdf_core.specs.declared.term.Term.TheVariants.{Literal}
use Rattle.rdf_core.specs.Characters.{all_pass, echar, hex_from, is_hex, is_iri_char, is_string_char}
use Rattle.rdf_core.specs.Escapes.{IsEnclosed, IsStringPart, IsWritten, Writes}
use Rattle.rdf_core.specs.Lexical.{has_scheme}
use Rattle.rdf_core.specs.LexicalReading.{hex_at}
use Rattle.rdf_core.specs.Serialization.{escaped, serialization, suffix}
use Rattle.rdf_core.specs.Vocabulary.{rdf_lang_string, xsd_string}
use Rattle.rdf_core.proofs.EscapeLaws.{and_is, and_parts, hex_takes, none_some}
use Rattle.rdf_core.proofs.EscapeSteps.{eqb_no, which}
use Rattle.rdf_core.proofs.HexSteps.{is_done}
use Rattle.rdf_core.proofs.PlainSteps.{raw_writes}
use Rattle.nquads_core.specs.Terminal.{Terminal, quoted, lang_tag, carets, iri_ref, IsTerminal}
use Rattle.nquads_core.specs.Grammar.{Object, plain_object, typed_object, tagged_object}
use Rattle.nquads_core.specs.Slices.{Joins}
use Rattle.nquads_scan.specs.Canonical.{HasForm}
use Rattle.nquads_scan.specs.Plain.{tag_left, IsDatatype, IsPlainSuffix}
use Rattle.nquads_scan.specs.Ends.{is_sought, IsPassed}
use Rattle.nquads_scan.specs.Rewriting.{IsEscapeThen, IsPutString, IsPutTo, IsRunThen}
use Rattle.nquads_scan.proofs.ByteLaws.{chars_cons, utf8_cons}
use Rattle.nquads_scan.proofs.FormLaws.{tag_is, tag_lower}
use Rattle.nquads_scan.proofs.PlainLaws.{datatype_suffix, plain_string}
use Rattle.nquads_scan.proofs.StringLaws.{passed_take}

-- ---- parts of a string, one after the other

writes_join : (part : List ℕ → ℕ → Type 0) (a b cs ds : List ℕ) → Writes part a cs → Writes part b ds → Writes part (a ++ b) (cs ++ ds)
writes_join part a b [] ds w v = subst (λ (y : List ℕ). Writes part (y ++ b) ds) (sym w) v
writes_join part a b (c ∷ cs) ds w v = (w.0, w.1 ++ b, ap (λ (y : List ℕ). y ++ b) w.2 ∙ append_assoc w.0 w.1 b, w.3, writes_join part w.1 b cs ds w.4 v)

written_join : (part : List ℕ → ℕ → Type 0) (a b x y : List ℕ) → IsWritten part a x → IsWritten part b y → IsWritten part (a ++ b) (x ++ y)
written_join part a b x y h k = record {
  chars = h.chars ++ k.chars;
  writes = writes_join part a b h.chars k.chars h.writes k.writes;
  utf8 = ap₂ (λ p q. p ++ q) h.utf8 k.utf8 ∙ sym (encodes-append h.chars k.chars);
}

-- more of the string was appended
put_join : (text old mid new rest more one string : List ℕ) → IsPutTo text old mid rest → chars rest ≡ one ++ chars more → IsWritten IsStringPart one string → new ≡ mid ++ flat_map escaped string → IsUtf8 more
    → IsPutTo text old new more
put_join text old mid new rest more one string h parts w n u = record {
  body = h.body ++ one;
  string = h.string ++ string;
  parts = h.parts ∙ ap (λ (y : List ℕ). h.body ++ y) parts ∙ sym (append_assoc h.body one (chars more));
  written = written_join IsStringPart h.body one h.string string h.written w;
  put = n ∙ ap (λ (y : List ℕ). y ++ flat_map escaped string) h.put ∙ append_assoc old (flat_map escaped h.string) (flat_map escaped string)
      ∙ ap (λ (y : List ℕ). old ++ y) (sym (flat_map-append escaped h.string string));
  utf8 = u;
}

pub put_none : (text old : List ℕ) → IsUtf8 text → IsPutTo text old old text
put_none text old u = record { body = []; string = []; parts = refl; written = record { chars = []; writes = refl; utf8 = refl }; put = sym (append-nil old); utf8 = u }

pub put_run : (text old new run rest : List ℕ) → IsUtf8 text → IsRunThen text run rest → new ≡ old ++ run → IsPutTo text old new rest
put_run text old new run rest u r n =
    let bytes = encodes-chars run r.run_utf8 in
    put_join text old old new text rest (chars run) run (put_none text old u) (ap chars r.parts ∙ chars-append run rest r.run_utf8)
    (record { chars = chars run; writes = raw_writes inside.Quoted (chars run) (subst (λ (y : List ℕ). list_all is_string_char y ≡ true) (sym bytes) r.raw); utf8 = sym bytes })
    (n ∙ ap (λ (y : List ℕ). old ++ y) (sym (plain_string run r.raw))) r.rest_utf8

pub put_escape : (text old new : List ℕ) (c : ℕ) (rest : List ℕ) → IsUtf8 text → IsEscapeThen text c rest → new ≡ old ++ flat_map escaped (encode_utf8 c) → IsPutTo text old new rest
put_escape text old new c rest u e n =
    put_join text old old new text rest e.one (encode_utf8 c) (put_none text old u) e.parts
    (record { chars = c ∷ []; writes = (e.one, [], sym (append-nil e.one), e.part, refl); utf8 = sym (append-nil (encode_utf8 c)) }) n e.utf8

-- one part of the string after another
pub put_then : (text old mid new rest more : List ℕ) → IsPutTo text old mid rest → IsPutTo rest mid new more → IsPutTo text old new more
put_then text old mid new rest more h k = put_join text old mid new rest more k.body k.string h k.parts k.written k.put k.utf8

pub put_close : (text old new rest after : List ℕ) → IsPutTo text old new rest → rest ≡ 34 ∷ after → IsUtf8 after → IsPutString text old new after
put_close text old new rest after h e u = record {
  string = h.string;
  enclosed = record { body = h.body; parts = h.parts ∙ ap (λ (y : List ℕ). h.body ++ y) (ap chars e ∙ chars_cons 34 after (lit< tt)); written = h.written };
  put = h.put;
  utf8 = u;
}

-- what is appended, if it is
pub appended : {T E : Type 0} (result : Result T E) (old new xs ys : List ℕ) → new ≡ (if is_ok result then old ++ xs else old) → xs ≡ ys → OnOk result (new ≡ old ++ ys)
appended (Ok v) old new xs ys e f = e ∙ ap (λ l. old ++ l) f
appended (Err x) old new xs ys e f = tt

-- ---- one character

high_char : (c : ℕ) → 128 ≤ c → is_string_char c ≡ true
high_char c h = grind (arith, nat_tests)

high_bytes : (bytes : List ℕ) → ((k : ℕ) → k < length bytes → 128 ≤ get_or bytes k 0) → list_all is_string_char bytes ≡ true
high_bytes [] h = refl
high_bytes (b ∷ bytes) h =
    and_is (is_string_char b) (list_all is_string_char bytes) (high_char b (h 0 (omega arith))) (high_bytes bytes (λ k l. h (suc k) (omega arith)))

-- a character that the canonical text does not escape
pub plain_char : (c : ℕ) → escaped c ≡ c ∷ [] → flat_map escaped (encode_utf8 c) ≡ encode_utf8 c
plain_char c h =
    elim (cases_lt c 128) [
      | inl l ↦ rw (encode_ascii c l) (append-nil (escaped c) ∙ h)
      | inr l ↦ plain_string (encode_utf8 c) (high_bytes (encode_utf8 c) (λ k m. elim (cases_lt (get_or (encode_utf8 c) k 0) 128) [
        | inl n ↦ absurd (let e = inside_one c [] (encode_utf8 c) k (sym (append-nil (encode_utf8 c))) m n in omega (arith, e))
        | inr n ↦ n
      ]))
    ]

-- ---- the whole literal

-- what is appended after the opening quote, the string and the closing quote
pub quoted_text : (old a b c d string more : List ℕ) → a ≡ old ++ 34 ∷ [] → b ≡ a ++ flat_map escaped string → c ≡ b ++ 34 ∷ [] → d ≡ c ++ more → d ≡ old ++ (34 ∷ (flat_map escaped string ++ 34 ∷ more))
quoted_text old a b c d string more e f g h =
    h ∙ ap (λ (y : List ℕ). y ++ more) (g ∙ ap (λ (y : List ℕ). y ++ 34 ∷ []) (f ∙ ap (λ (y : List ℕ). y ++ flat_map escaped string) e))
    ∙ append_assoc ((old ++ 34 ∷ []) ++ flat_map escaped string) (34 ∷ []) more ∙ append_assoc (old ++ 34 ∷ []) (flat_map escaped string) (34 ∷ more)
    ∙ append_assoc old (34 ∷ []) (flat_map escaped string ++ 34 ∷ more)

low_tag_byte : (c : ℕ) (b : Bool) → (is_ascii_lowercase c || (is_ascii_digit c && b)) ≡ true → c < 128
low_tag_byte c b h = grind (arith, nat_tests)

hyphen_low : (c : ℕ) → eqb c 45 ≡ true → c < 128
hyphen_low c e = rw (eqb-true c 45 e) (lit< tt)

-- the characters of a tag are its bytes
tag_chars : (primary fresh : Bool) (tag : List ℕ) → tag_left primary fresh tag ≡ true → chars tag ≡ tag
tag_chars primary fresh [] h = chars-nil
tag_chars primary fresh (c ∷ tag) h =
    elim (which (eqb c 45)) [
      | inl e ↦
          let p = and_parts (not fresh) (tag_left false true tag) (rw e at h) in
          chars_cons c tag (hyphen_low c e) ∙ ap (λ (y : List ℕ). c ∷ y) (tag_chars false true tag p.1)
      | inr e ↦
          let p = and_parts (is_ascii_lowercase c || (is_ascii_digit c && not primary)) (tag_left primary false tag) (rw e at h) in
          chars_cons c tag (low_tag_byte c (not primary) p.0) ∙ ap (λ (y : List ℕ). c ∷ y) (tag_chars primary false tag p.1)
    ]

-- a text that is one terminal
one_joins : (text word : List ℕ) (k : Terminal) → text ≡ word → IsTerminal word k → Joins text (k ∷ []) []
one_joins text word k e t = (word, [], e ∙ sym (append-nil word), t, refl)

tag_joins : (more tag : List ℕ) → more ≡ 64 ∷ tag → tag_left true true tag ≡ true → Joins (chars more) (lang_tag tag ∷ []) []
tag_joins more tag e h =
    one_joins (chars more) (64 ∷ tag) (lang_tag tag) (ap chars e ∙ chars_cons 64 tag (lit< tt) ∙ ap (λ (y : List ℕ). 64 ∷ y) (tag_chars true true tag h))
    (record { tag = tag; parts = refl; right = tag_is tag h; lower = sym (tag_lower true true tag h) })

-- the characters of an IRI in angle brackets
bracket_chars : (iri : List ℕ) → IsUtf8 iri → chars (60 ∷ (iri ++ 62 ∷ [])) ≡ 60 ∷ (chars iri ++ 62 ∷ [])
bracket_chars iri u =
    chars_cons 60 (iri ++ 62 ∷ []) (lit< tt) ∙ ap (λ (y : List ℕ). 60 ∷ y)
    (chars-append iri (62 ∷ []) u ∙ ap (λ (y : List ℕ). chars iri ++ y) (chars_cons 62 [] (lit< tt) ∙ ap (λ (y : List ℕ). 62 ∷ y) chars-nil))

datatype_joins : (more : List ℕ) (d : IsDatatype more) → Joins (chars more) (carets ∷ iri_ref d.datatype ∷ []) []
datatype_joins more d =
    let p = and_parts (list_all is_iri_char d.datatype) (has_scheme d.datatype) d.plain in
    let bytes = encodes-chars d.datatype d.utf8 in
    let tail : List ℕ = 60 ∷ (chars d.datatype ++ 62 ∷ []) in (
      94 ∷ 94 ∷ [],
      tail,
      ap chars d.is ∙ chars_cons 94 (94 ∷ 60 ∷ (d.datatype ++ 62 ∷ [])) (lit< tt)
          ∙ ap (λ (y : List ℕ). 94 ∷ y) (chars_cons 94 (60 ∷ (d.datatype ++ 62 ∷ [])) (lit< tt) ∙ ap (λ (y : List ℕ). 94 ∷ y) (bracket_chars d.datatype d.utf8)),
      refl,
      one_joins tail tail (iri_ref d.datatype) refl (record {
        body = chars d.datatype;
        chars = chars d.datatype;
        parts = refl;
        writes = raw_writes inside.Iri (chars d.datatype) (subst (λ (y : List ℕ). list_all is_iri_char y ≡ true) (sym bytes) p.0);
        utf8 = sym bytes;
        scheme = p.1;
      }),
    )

-- what is known of a literal: its string and what follows the closing quote
module _ (raw text string more : List ℕ) (u : IsUtf8 raw) (first : raw ≡ 34 ∷ text) (h : IsEnclosed IsStringPart 34 (chars text) string (chars more)) where
  literal_joins : (ks : List Terminal) → Joins (chars more) ks [] → Joins (chars raw) (quoted string ∷ ks) []
  literal_joins ks j = (
    34 ∷ (h.body ++ 34 ∷ []),
    chars more,
    ap chars first ∙ chars_cons 34 text (lit< tt) ∙ ap (λ (y : List ℕ). 34 ∷ y) (h.parts ∙ sym (append_assoc h.body (34 ∷ []) (chars more))),
    record { body = h.body; chars = h.written.chars; parts = refl; writes = h.written.writes; utf8 = h.written.utf8 },
    j,
  )

  with_suffix : (t : Term) (ks : List Terminal) (after : List ℕ) → Joins (chars more) ks [] → Object (quoted string ∷ ks) t → more ≡ after → serialization t ≡ 34 ∷ (flat_map escaped string ++ 34 ∷ after)
      → HasForm raw (34 ∷ (flat_map escaped string ++ 34 ∷ more))
  with_suffix t ks after j o e form = record {
    term = t;
    denotes = record { utf8 = u; terminals = quoted string ∷ ks; joins = literal_joins ks j; object = o };
    form = ap (λ (y : List ℕ). 34 ∷ (flat_map escaped string ++ 34 ∷ y)) e ∙ sym form;
  }

  pub literal_rewritten : IsPlainSuffix more → HasForm raw (34 ∷ (flat_map escaped string ++ 34 ∷ more))
  literal_rewritten (inl e) =
      with_suffix (Literal string xsd_string None) [] [] (ap chars e ∙ chars-nil) plain_object e refl
  literal_rewritten (inr (inr t)) =
      with_suffix (Literal string rdf_lang_string (Some t.tag)) (lang_tag t.tag ∷ []) (64 ∷ t.tag) (tag_joins more t.tag t.is t.lower) tagged_object t.is refl
  literal_rewritten (inr (inl d)) =
      with_suffix (Literal string d.datatype None) (carets ∷ iri_ref d.datatype ∷ []) (suffix d.datatype None) (datatype_joins more d) typed_object
      (d.is ∙ sym (datatype_suffix d.datatype d.other)) refl

-- ---- escapes

hex_low : (c : ℕ) → is_hex c ≡ true → c < 128
hex_low c h = grind (arith, nat_tests)

hex_chars : (digits rest : List ℕ) → all_pass is_hex digits ≡ true → IsUtf8 (digits ++ rest) → (chars (digits ++ rest) ≡ digits ++ chars rest) × IsUtf8 rest
hex_chars [] rest h u = (refl, u)
hex_chars (c ∷ digits) rest h u =
    let p = and_parts (is_hex c) (all_pass is_hex digits) h in
    let low = hex_low c p.0 in
    let more = hex_chars digits rest p.1 (utf8_cons c (digits ++ rest) low u) in
    (chars_cons c (digits ++ rest) low ∙ ap (λ (y : List ℕ). c ∷ y) more.0, more.1)

-- the letters after a backslash
letter_low : (letter n : ℕ) → ((letter ≡ 117) × (n ≡ 4)) ⊎ ((letter ≡ 85) × (n ≡ 8)) → letter < 128
letter_low letter n (inl h) = rw h.0 (lit< tt)
letter_low letter n (inr h) = rw h.0 (lit< tt)

pub uchar_then : (text : List ℕ) (letter : ℕ) (digits rest : List ℕ) (c : ℕ) → IsUtf8 text → text ≡ 92 ∷ letter ∷ (digits ++ rest)
    → ((letter ≡ 117) × (length digits ≡ 4)) ⊎ ((letter ≡ 85) × (length digits ≡ 8)) → all_pass is_hex digits ≡ true → hex_from 0 digits ≡ c → IsScalar c → IsEscapeThen text c rest
uchar_then text letter digits rest c u parts count hex names scalar =
    let low = letter_low letter (length digits) count in
    let v = utf8_cons letter (digits ++ rest) low (utf8_cons 92 (letter ∷ (digits ++ rest)) (lit< tt) (subst IsUtf8 parts u)) in
    let more = hex_chars digits rest hex v in record {
      one = 92 ∷ letter ∷ digits;
      parts = ap chars parts ∙ chars_cons 92 (letter ∷ (digits ++ rest)) (lit< tt)
          ∙ ap (λ (y : List ℕ). 92 ∷ y) (chars_cons letter (digits ++ rest) low ∙ ap (λ (y : List ℕ). letter ∷ y) more.0);
      part = inr (inr (record { letter = letter; digits = digits; parts = refl; count = count; hex = hex; names = names; scalar = scalar }));
      utf8 = more.1;
      shorter = omega (arith, ap length parts, length-append digits rest);
    }

pub echar_low : (letter c : ℕ) → echar letter ≡ Some c → letter < 128
echar_low letter c h =
    elim (cases_lt letter 128) [
      | inl l ↦ l
      | inr l ↦
          let no' : (b : ℕ) → b < 128 → eqb letter b ≡ false = λ b m. eqb_no letter b (λ e. omega (arith, l, m, e)) in
          let none : echar letter ≡ None =
          rw (no' 116 (lit< tt), no' 98 (lit< tt), no' 110 (lit< tt), no' 114 (lit< tt), no' 102 (lit< tt), no' 34 (lit< tt), no' 39 (lit< tt), no' 92 (lit< tt)) refl in
          absurd (none_some c (sym none ∙ h))
    ]

pub echar_then : (text : List ℕ) (letter : ℕ) (rest : List ℕ) (c : ℕ) → IsUtf8 text → text ≡ 92 ∷ letter ∷ rest → echar letter ≡ Some c → IsEscapeThen text c rest
echar_then text letter rest c u parts names =
    let low = echar_low letter c names in record {
      one = 92 ∷ letter ∷ [];
      parts = ap chars parts ∙ chars_cons 92 (letter ∷ rest) (lit< tt) ∙ ap (λ (y : List ℕ). 92 ∷ y) (chars_cons letter rest low);
      part = inr (inl (record { letter = letter; parts = refl; names = names }));
      utf8 = utf8_cons letter rest low (utf8_cons 92 (letter ∷ rest) (lit< tt) (subst IsUtf8 parts u));
      shorter = omega (arith, ap length parts);
    }

-- the number that is read from the digits is their value
named : (digits : List ℕ) (n value c : ℕ) → length digits ≤ n → hex_at (length digits - n) value (drop n digits) ≡ hex_at (length digits) 0 digits → IsScalar value → c ≡ value
    → (all_pass is_hex digits ≡ true) × (hex_from 0 digits ≡ c) × IsScalar c
named digits n value c l left scalar is =
    let none : drop n digits ≡ [] = nil_from_length (drop n digits) (omega (arith, length-drop n digits, l)) in
    let t = hex_takes (length digits) 0 digits value [] (is_done (length digits) n value (drop n digits) _ l left ∙ ap (λ (y : List ℕ). Some (value, y)) none) in
    let same : t.digits ≡ digits = sym (append-nil t.digits) ∙ sym t.parts in (
      ap (all_pass is_hex) (sym same) ∙ t.hex,
      ap (hex_from 0) (sym same) ∙ t.worth ∙ sym is,
      subst IsScalar (sym is) scalar,
    )

pub scalar_named : (digits : List ℕ) (n value : ℕ) (found : Option ℕ) → length digits ≤ n → hex_at (length digits - n) value (drop n digits) ≡ hex_at (length digits) 0 digits → SomeIff found (IsScalar value) value
    → IfSome found (λ c. (all_pass is_hex digits ≡ true) × (hex_from 0 digits ≡ c) × IsScalar c)
scalar_named digits n value None l left h = tt
scalar_named digits n value (Some c) l left h = named digits n value c l left h.0 h.1

-- the bytes of an escape and what follows it
pub escape_split : (text : List ℕ) (len : ℕ) → 2 ≤ len → len ≤ length text → text ≡ get_or text 0 0 ∷ get_or text 1 0 ∷ (slice_range text 2 len ++ drop len text)
escape_split [] len l m = absurd (omega (arith, l, m))
escape_split (b ∷ []) len l m = absurd (omega (arith, l, m))
escape_split (b ∷ d ∷ text) zero l m = absurd (omega (arith, l))
escape_split (b ∷ d ∷ text) (suc zero) l m = absurd (omega (arith, l))
escape_split (b ∷ d ∷ text) (suc (suc n)) l m =
    let middle : slice_range (b ∷ d ∷ text) 2 (suc (suc n)) ≡ take n text = ap (λ (k : ℕ). take k text) (omega arith) in
    ap (λ (y : List ℕ). b ∷ d ∷ y) (sym (take-append-drop n text) ∙ ap (λ (y : List ℕ). y ++ drop n text) (sym middle))

letter_count : (letter len n : ℕ) → ((letter ≡ 117) × (len ≡ 6)) ⊎ ((letter ≡ 85) × (len ≡ 10)) → n ≡ len - 2 → ((letter ≡ 117) × (n ≡ 4)) ⊎ ((letter ≡ 85) × (n ≡ 8))
letter_count letter len n (inl h) e = inl (h.0, omega (arith, h.1, e))
letter_count letter len n (inr h) e = inr (h.0, omega (arith, h.1, e))

at_least_two : (letter len : ℕ) → ((letter ≡ 117) × (len ≡ 6)) ⊎ ((letter ≡ 85) × (len ≡ 10)) → 2 ≤ len
at_least_two letter len (inl h) = omega (arith, h.1)
at_least_two letter len (inr h) = omega (arith, h.1)

digits_count : (text : List ℕ) (len : ℕ) → len ≤ length text → length (slice_range text 2 len) ≡ len - 2
digits_count text len l = length-take-le (len - 2) (drop 2 text) (omega (arith, length-drop 2 text, l))

pub uchar_split : (text bytes : List ℕ) (len : ℕ) → bytes ≡ text → IsUtf8 text → get_or text 0 0 ≡ 92 → ((get_or text 1 0 ≡ 117) × (len ≡ 6)) ⊎ ((get_or text 1 0 ≡ 85) × (len ≡ 10)) → len ≤ length bytes
    → (c : ℕ) → (all_pass is_hex (slice_range bytes 2 len) ≡ true) × (hex_from 0 (slice_range bytes 2 len) ≡ c) × IsScalar c → IsEscapeThen text c (drop len text)
uchar_split text bytes len same u first letter l c h =
    let k : len ≤ length text = omega (arith, l, ap length same) in
    let d = subst (λ (y : List ℕ). (all_pass is_hex (slice_range y 2 len) ≡ true) × (hex_from 0 (slice_range y 2 len) ≡ c) × IsScalar c) same h in
    let digits = slice_range text 2 len in
    let parts : text ≡ 92 ∷ get_or text 1 0 ∷ (digits ++ drop len text) =
    escape_split text len (at_least_two (get_or text 1 0) len letter) k ∙ ap (λ (y : ℕ). y ∷ get_or text 1 0 ∷ (digits ++ drop len text)) first in
    uchar_then text (get_or text 1 0) digits (drop len text) c u parts (letter_count (get_or text 1 0) len (length digits) letter (digits_count text len k)) d.0 d.1 d.2

pub echar_split : (text bytes : List ℕ) (c : ℕ) → bytes ≡ text → IsUtf8 text → 2 ≤ length bytes → get_or bytes 0 0 ≡ 92 → Some c ≡ echar (get_or bytes 1 0) → IsEscapeThen text c (drop 2 text)
echar_split text bytes c same u l first names =
    let parts : text ≡ 92 ∷ get_or text 1 0 ∷ drop 2 text =
    escape_split text 2 (omega arith) (omega (arith, l, ap length same)) ∙ ap (λ (y : ℕ). y ∷ get_or text 1 0 ∷ drop 2 text) (subst (λ (y : List ℕ). get_or y 0 0 ≡ 92) same first) in
    echar_then text (get_or text 1 0) (drop 2 text) c u parts (sym (subst (λ (y : List ℕ). Some c ≡ echar (get_or y 1 0)) same names))

-- ---- runs

pub run_then : (text bytes : List ℕ) (end : ℕ) (run rest : List ℕ) → bytes ≡ text → IsUtf8 text → 0 < end → end < length bytes → get_or bytes end 0 < 128 → IsPassed 34 92 bytes 0 end → run ≡ slice_range text 0 end → rest ≡ drop end text → IsRunThen text run rest
run_then text bytes end run rest same u p l low h f d =
    let r : run ≡ take end text = f ∙ ap (λ (n : ℕ). take n text) (omega arith) in
    let boundary = IsCharBoundary-before_ascii text end (omega (arith, l, ap length same)) (subst (λ (y : List ℕ). get_or y end 0 < 128) same low) in record {
      parts = sym (take-append-drop end text) ∙ ap (λ (y : List ℕ). y ++ drop end text) (sym r) ∙ ap (λ (y : List ℕ). run ++ y) (sym d);
      run_utf8 = subst IsUtf8 (sym r) (IsUtf8-take text end u boundary);
      rest_utf8 = subst IsUtf8 (sym d) (IsUtf8-drop text end u boundary);
      raw = ap (list_all is_string_char) r ∙ passed_take text end (λ k m. subst (λ (y : List ℕ). is_sought 34 92 (get_or y k 0) ≡ false) same (h.each k (omega arith) m));
      some = omega (arith, ap length r, length-take-le end text (omega (arith, l, ap length same)), p);
    }
