-- A slice without an escape is its own canonical text.
use Rattle.std.proofs.Common.{◌≡◌, ℕ, suc, ◌-◌, ◌≤◌, ◌<◌, true, false, List, [], ◌∷◌, ◌++◌, length, take, drop, get_or, slice_range, Some, None, refl, sym, ap, subst, ◌∙◌, arith, inl, inr}
use Rattle.std.specs.List.{flat_map, list_all}
use Rattle.std.specs.Str.{IsUtf8, bytes_eq, chars}
use Rattle.std.proofs.Math.Seq.{take-suc, take-length}
use Rattle.std.proofs.lemmas.Bool.Decides.{nat_tests}
use Rattle.std.proofs.lemmas.List.{take_rest}
use Rattle.std.proofs.lemmas.Str.{encodes-chars, scalars-chars}
use Rattle.rdf_core.specs.declared.term.Term.{Term}
use Rattle.rdf_core.specs.declared.term.Term.TheVariants.{Blank, Iri, Literal}
use Rattle.rdf_core.specs.declared.lexical.escapes.Inside.TheVariants as inside
use Rattle.rdf_core.specs.Characters.{all_pass, is_iri_char, is_string_char}
use Rattle.rdf_core.specs.Escapes.{IsIriPart, Writes}
use Rattle.rdf_core.specs.Lexical.{has_scheme}
use Rattle.rdf_core.specs.Serialization.{escaped, serialization, suffix}
use Rattle.rdf_core.specs.QuadFacts.{is_iri, is_node}
use Rattle.rdf_core.specs.Vocabulary.{rdf_lang_string, xsd_string}
use Rattle.nquads_core.specs.Terminal.{is_label}
use Rattle.rdf_core.proofs.EscapeLaws.{and_is, and_parts}
use Rattle.rdf_core.proofs.PlainSteps.{raw_writes}
use Rattle.nquads_core.specs.Slices.{Denotes}
use Rattle.nquads_core.proofs.Again.{good_denotes}
use Rattle.nquads_core.proofs.GoodTerms.{GoodIri, GoodTerm, GoodText}
use Rattle.nquads_scan.specs.Canonical.{HasForm}
use Rattle.nquads_scan.specs.Plain.{is_plain_iri, tag_left, IsBracketed, IsLabelled, IsPlainString, IsPlainSuffix}
use Rattle.nquads_scan.proofs.FormLaws.{good_tag}

-- the canonical text of a term of some line
form_of : (raw : List ℕ) (t : Term) → GoodTerm t → raw ≡ serialization t → HasForm raw raw
form_of raw t g e = record { term = t; denotes = subst (λ (y : List ℕ). Denotes y t) (sym e) (good_denotes t g); form = e }

-- ---- IRIs

writes_pass : (text cs : List ℕ) → Writes IsIriPart text cs → all_pass is_iri_char cs ≡ true
writes_pass text [] w = refl
writes_pass text (c ∷ cs) w = and_is (is_iri_char c) (all_pass is_iri_char cs) w.3.0 (writes_pass w.1 cs w.4)

good_iri : (iri : List ℕ) → IsUtf8 iri → is_plain_iri iri ≡ true → GoodIri iri
good_iri iri u h =
    let p = and_parts (list_all is_iri_char iri) (has_scheme iri) h in
    let bytes = encodes-chars iri u in
    record {
      chars = chars iri;
      scalars = scalars-chars iri u;
      utf8 = sym bytes;
      right = writes_pass (chars iri) (chars iri) (raw_writes inside.Iri (chars iri) (subst (λ (y : List ℕ). list_all is_iri_char y ≡ true) (sym bytes) p.0));
      scheme = p.1;
    }

pub iri_denotes : (raw iri : List ℕ) → IsBracketed raw iri → is_plain_iri iri ≡ true → (t : Term) × Denotes raw t × (is_iri t ≡ true)
iri_denotes raw iri b h = (Iri iri, subst (λ (y : List ℕ). Denotes y (Iri iri)) (sym b.parts) (good_denotes (Iri iri) (good_iri iri b.utf8 h)), refl)

pub iri_form : (raw iri : List ℕ) → IsBracketed raw iri → is_plain_iri iri ≡ true → HasForm raw raw
iri_form raw iri b h = form_of raw (Iri iri) (good_iri iri b.utf8 h) b.parts

-- ---- literals

plain_byte : (b : ℕ) → is_string_char b ≡ true → escaped b ≡ b ∷ []
plain_byte b h = grind (arith, nat_tests)

pub plain_string : (bytes : List ℕ) → list_all is_string_char bytes ≡ true → flat_map escaped bytes ≡ bytes
plain_string [] h = refl
plain_string (b ∷ bytes) h =
    let p = and_parts (is_string_char b) (list_all is_string_char bytes) h in
    ap (λ (y : List ℕ). y ++ flat_map escaped bytes) (plain_byte b p.0) ∙ ap (λ (y : List ℕ). b ∷ y) (plain_string bytes p.1)

good_text : (bytes : List ℕ) → IsUtf8 bytes → GoodText bytes
good_text bytes u = record { chars = chars bytes; scalars = scalars-chars bytes u; utf8 = sym (encodes-chars bytes u) }

literal_parts : (string more more' : List ℕ) → list_all is_string_char string ≡ true → more ≡ more' → 34 ∷ (string ++ 34 ∷ more) ≡ 34 ∷ (flat_map escaped string ++ 34 ∷ more')
literal_parts string more more' h e = ap (λ (y : List ℕ). 34 ∷ (string ++ 34 ∷ y)) e ∙ ap (λ (y : List ℕ). 34 ∷ (y ++ 34 ∷ more')) (sym (plain_string string h))

pub datatype_suffix : (datatype : List ℕ) → bytes_eq datatype xsd_string ≡ false → suffix datatype None ≡ 94 ∷ 94 ∷ 60 ∷ (datatype ++ 62 ∷ [])
datatype_suffix datatype h = rw h refl

pub literal_form : (raw string more : List ℕ) → IsPlainString raw string more → IsPlainSuffix more → HasForm raw raw
literal_form raw string more s (inl e) =
    form_of raw (Literal string xsd_string None) (good_text string s.utf8, inl refl) (s.parts ∙ literal_parts string more [] s.raw e)
literal_form raw string more s (inr (inr t)) =
    form_of raw (Literal string rdf_lang_string (Some t.tag)) (good_text string s.utf8, refl, good_tag t.tag t.lower) (s.parts ∙ literal_parts string more (64 ∷ t.tag) s.raw t.is)
literal_form raw string more s (inr (inl d)) =
    form_of raw (Literal string d.datatype None) (good_text string s.utf8, inr (good_iri d.datatype d.utf8 d.plain))
    (s.parts ∙ literal_parts string more (suffix d.datatype None) s.raw (d.is ∙ sym (datatype_suffix d.datatype d.other)))

-- ---- labels

good_label : (raw label : List ℕ) → IsLabelled raw label → is_label (chars label) ≡ true → GoodTerm (Blank label)
good_label raw label b h = record { chars = chars label; scalars = scalars-chars label b.utf8; utf8 = sym (encodes-chars label b.utf8); right = h }

pub label_denotes : (raw label : List ℕ) → IsLabelled raw label → is_label (chars label) ≡ true → (t : Term) × Denotes raw t × (is_node t ≡ true)
label_denotes raw label b h = (Blank label, subst (λ (y : List ℕ). Denotes y (Blank label)) (sym b.parts) (good_denotes (Blank label) (good_label raw label b h)), refl)

pub label_form : (raw label : List ℕ) → IsLabelled raw label → is_label (chars label) ≡ true → HasForm raw raw
label_form raw label b h = form_of raw (Blank label) (good_label raw label b h) b.parts

-- ---- the ends of a text

labelled : (text : List ℕ) → 2 ≤ length text → get_or text 0 0 ≡ 95 → get_or text 1 0 ≡ 58 → text ≡ 95 ∷ 58 ∷ drop 2 text
labelled [] l e f = absurd (omega (arith, l))
labelled (b ∷ []) l e f = absurd (omega (arith, l))
labelled (b ∷ d ∷ text) l e f = rw (e, f) refl

pub label_after : (text bytes label : List ℕ) → bytes ≡ text → 2 ≤ length bytes → get_or bytes 0 0 ≡ 95 → get_or bytes 1 0 ≡ 58 → label ≡ drop 2 text → IsUtf8 label → IsLabelled text label
label_after text bytes label same l e f d u = record {
  parts = labelled text (omega (arith, l, ap length same)) (sym (ap (λ (y : List ℕ). get_or y 0 0) same) ∙ e) (sym (ap (λ (y : List ℕ). get_or y 1 0) same) ∙ f) ∙ ap (λ (y : List ℕ). 95 ∷ 58 ∷ y) (sym d);
  utf8 = u;
}

pub first_then : (text : List ℕ) (b : ℕ) → 0 < b → get_or text 0 0 ≡ b → text ≡ b ∷ drop 1 text
first_then [] b p e = absurd (omega (arith, p, e))
first_then (x ∷ text) b p e = ap (λ (y : ℕ). y ∷ text) e

pub tag_after : (text bytes : List ℕ) → bytes ≡ text → get_or bytes 0 0 ≡ 64 → tag_left true true (take (length bytes - 1) (drop 1 bytes)) ≡ true → IsPlainSuffix text
tag_after text bytes same e h =
    inr (inr (record { tag = drop 1 bytes; is = sym same ∙ first_then bytes 64 (omega arith) e; lower = sym (ap (tag_left true true) (take_rest bytes 1)) ∙ h }))

last_split : (text : List ℕ) → 0 < length text → text ≡ take (length text - 1) text ++ get_or text (length text - 1) 0 ∷ []
last_split text l =
    let n : length text ≡ suc (length text - 1) = omega (arith, l) in
    sym (take-length text) ∙ ap (λ (k : ℕ). take k text) n ∙ take-suc text (length text - 1) 0 (omega (arith, l))

brackets : (text : List ℕ) → 2 ≤ length text → get_or text 0 0 ≡ 60 → get_or text (length text - 1) 0 ≡ 62 → text ≡ 60 ∷ (slice_range text 1 (length text - 1) ++ 62 ∷ [])
brackets [] l e f = absurd (omega (arith, l))
brackets (b ∷ text) l e f =
    let n : length (b ∷ text) - 1 ≡ suc (length text - 1) = omega (arith, l) in
    let last : get_or text (length text - 1) 0 ≡ 62 = sym (ap (λ (k : ℕ). get_or (b ∷ text) k 0) n) ∙ f in
    let middle : slice_range (b ∷ text) 1 (length (b ∷ text) - 1) ≡ take (length text - 1) text = ap (λ (k : ℕ). take k text) (omega (arith, l)) in
    ap (λ (y : ℕ). y ∷ text) e ∙ ap (λ (y : List ℕ). 60 ∷ y) (last_split text (omega (arith, l)) ∙ ap (λ (y : ℕ). take (length text - 1) text ++ y ∷ []) last ∙ ap (λ (y : List ℕ). y ++ 62 ∷ []) (sym middle))

pub bracketed : (text bytes inside : List ℕ) (len : ℕ) → bytes ≡ text → len ≡ length bytes → 2 ≤ len → get_or bytes 0 0 ≡ 60 → get_or bytes (len - 1) 0 ≡ 62 → inside ≡ slice_range text 1 (len - 1) → IsUtf8 inside → IsBracketed text inside
bracketed text bytes inside len same n l e f s u =
    let m : len ≡ length text = n ∙ ap length same in
    let first : get_or text 0 0 ≡ 60 = sym (ap (λ (y : List ℕ). get_or y 0 0) same) ∙ e in
    let last : get_or text (length text - 1) 0 ≡ 62 = sym (ap (λ (y : List ℕ). get_or y (len - 1) 0) same ∙ ap (λ (k : ℕ). get_or text (k - 1) 0) m) ∙ f in
    record { parts = brackets text (omega (arith, l, m)) first last ∙ ap (λ (y : List ℕ). 60 ∷ (y ++ 62 ∷ [])) (sym (s ∙ ap (λ (k : ℕ). slice_range text 1 (k - 1)) m)); utf8 = u }
