-- A term that is there is read.
use Rattle.std.proofs.Common.{◌≡◌, ℕ, Bool, true, false, true≢false, IsUtf8, List, [], ◌++◌, get_or, Option, None, Some, IfSome, codes, refl, sym, ap, ◌∙◌, if◌then◌else◌}
use Rattle.std.specs.Str.{bytes_eq}
use Rattle.std.proofs.lemmas.List.{append_cancel_left}
use Rattle.rdf_core.specs.Vocabulary.{xsd_string}
use Rattle.rdf_core.specs.declared.term.Term.{Term}
use Rattle.rdf_core.specs.declared.term.Term.TheVariants.{Blank, Iri, Literal}
use Rattle.result_json.specs.Results.{string_text, term_text}
use Rattle.result_merge.specs.Absent.{IsNoFramed, IsNoLiteral, IsNoString, IsNoTerm, IsNoText, IsNoTyped, literal_end}
use Rattle.result_merge.specs.Encoding.{HasUtf8}
use Rattle.result_merge.specs.Reading.{literal_start}
use Rattle.result_merge.specs.Tags.{HasTagType}
use Rattle.result_merge.proofs.StringLaws.{string_same}
use Rattle.result_merge.proofs.TermTextLaws.{byte_of, byte_shown, first_shown, first_test, framed, framed_two, second_shown, second_test, text}

-- ---- strings in frames

pub no_before : (before bytes : List ℕ) → ((rest : List ℕ) → bytes ≡ before ++ rest → ⊥) → IsNoText before bytes
no_before before bytes h = λ s rest u e. h (string_text s ++ rest) e

pub no_text : (before bytes after : List ℕ) → bytes ≡ before ++ after → IsNoString after → IsNoText before bytes
no_text before bytes after f h = λ s rest u e. h s rest u (append_cancel_left before _ _ (sym f ∙ e))

pub no_begun : (before end bytes : List ℕ) → IsNoText before bytes → IsNoFramed before end bytes
no_begun before end bytes h = λ s rest u e. h s (end ++ rest) u e

-- the text after a string that was read
after_string : (before bytes t after s rest : List ℕ) → bytes ≡ before ++ (string_text t ++ after) → bytes ≡ before ++ (string_text s ++ rest) → (t ≡ s) × (after ≡ rest)
after_string before bytes t after s rest f e = string_same t s after rest (append_cancel_left before _ _ (sym f ∙ e))

pub no_end : (before end bytes t after : List ℕ) → bytes ≡ before ++ (string_text t ++ after) → ((rest : List ℕ) → after ≡ end ++ rest → ⊥) → IsNoFramed before end bytes
no_end before end bytes t after f h = λ s rest u e. h rest (after_string before bytes t after s (end ++ rest) f e).1

-- ---- literals

pub no_literal_start : (bytes : List ℕ) → IsNoText literal_start bytes → IsNoLiteral bytes
no_literal_start bytes h = λ lexical tag rest u v e. h lexical (literal_end tag ++ rest) u e

pub no_literal_end : (bytes lexical after : List ℕ) → bytes ≡ literal_start ++ (string_text lexical ++ after) → ((rest : List ℕ) → after ≡ codes "}" ++ rest → ⊥)
    → IsNoFramed (codes ",\"xml:lang\":") (codes "}") after → IsNoLiteral bytes
no_literal_end bytes lexical after f no_brace no_tag = λ l tag rest u v e. by tag rest v (after_string literal_start bytes lexical after l (literal_end tag ++ rest) f e).1
  where
    by : (tag : Option (List ℕ)) (rest : List ℕ) → IfSome tag IsUtf8 → after ≡ literal_end tag ++ rest → ⊥
    by None rest v e = no_brace rest e
    by (Some tag) rest v e = no_tag tag rest v (e ∙ framed (codes ",\"xml:lang\":") (string_text tag) (codes "}") rest)

pub no_datatype : (bytes : List ℕ) → IsNoText (codes "{\"datatype\":") bytes → IsNoTyped bytes
no_datatype bytes h = λ d l rest u v other e. h d (codes ",\"type\":\"literal\",\"value\":" ++ (string_text l ++ (codes "}" ++ rest))) u e

pub no_typed : (bytes datatype after : List ℕ) → bytes ≡ codes "{\"datatype\":" ++ (string_text datatype ++ after) → IsNoFramed (codes ",\"type\":\"literal\",\"value\":") (codes "}") after → IsNoTyped bytes
no_typed bytes datatype after f h = λ d l rest u v other e.
    h l rest v (after_string (codes "{\"datatype\":") bytes datatype after d (codes ",\"type\":\"literal\",\"value\":" ++ (string_text l ++ (codes "}" ++ rest))) f e).1

-- a literal of xsd:string has no datatype in its text
pub not_typed : (bytes datatype after : List ℕ) → bytes ≡ codes "{\"datatype\":" ++ (string_text datatype ++ after) → bytes_eq datatype xsd_string ≡ true → IsNoTyped bytes
not_typed bytes datatype after f is = λ d l rest u v other e.
    let same = after_string (codes "{\"datatype\":") bytes datatype after d (codes ",\"type\":\"literal\",\"value\":" ++ (string_text l ++ (codes "}" ++ rest))) f e in
    true≢false (sym is ∙ ap (λ x. bytes_eq x xsd_string) same.0 ∙ other)

-- ---- terms, by the two tests of their kind

-- no term of this kind
abbrev pub IsNoKind : Bool → Bool → List ℕ → Type 0
IsNoKind p q bytes = (l d : List ℕ) (o : Option (List ℕ)) (rest : List ℕ) → IsUtf8 l → IfSome o IsUtf8 → (p ≡ false → q ≡ false → IsUtf8 d × (bytes_eq d xsd_string ≡ false))
    → bytes ≡ text p q l d o ++ rest → ⊥

pub blank_kind : (bytes : List ℕ) → IsNoFramed (codes "{\"type\":\"bnode\",\"value\":") (codes "}") bytes → IsNoKind true true bytes
blank_kind bytes h = λ l d o rest u v t e. h l rest u (e ∙ framed (codes "{\"type\":\"bnode\",\"value\":") (string_text l) (codes "}") rest)

pub iri_kind : (bytes : List ℕ) → IsNoFramed (codes "{\"type\":\"uri\",\"value\":") (codes "}") bytes → IsNoKind true false bytes
iri_kind bytes h = λ l d o rest u v t e. h l rest u (e ∙ framed (codes "{\"type\":\"uri\",\"value\":") (string_text l) (codes "}") rest)

pub literal_kind : (bytes : List ℕ) → IsNoLiteral bytes → IsNoKind false true bytes
literal_kind bytes h = λ l d o rest u v t e.
    h l o rest u v (e ∙ framed literal_start (string_text l) (literal_end o) rest)

pub typed_kind : (bytes : List ℕ) → IsNoTyped bytes → IsNoKind false false bytes
typed_kind bytes h = λ l d o rest u v t e.
    let w = t refl refl in
    h d l rest w.0 u w.1 (e ∙ framed_two (codes "{\"datatype\":") (string_text d) (codes ",\"type\":\"literal\",\"value\":") (string_text l) (codes "}") rest)

-- the byte at place 9 shows the kind
other_kind : (p q r s : Bool) (bytes : List ℕ) → get_or bytes 9 0 ≡ byte_of p q → IsNoKind p q bytes → IsNoKind r s bytes
other_kind p q r s bytes shows h = λ l d o rest u v t e.
    let byte : byte_of r s ≡ byte_of p q = sym (byte_shown r s l d o rest) ∙ ap (λ x. get_or x 9 0) (sym e) ∙ shows in
    let one : r ≡ p = sym (first_shown r s) ∙ ap first_test byte ∙ first_shown p q in
    let two : s ≡ q = sym (second_shown r s) ∙ ap second_test byte ∙ second_shown p q in
    h l d o rest u v (λ a b. t (one ∙ a) (two ∙ b)) (e ∙ (λ i. text (one i) (two i) l d o ++ rest))

-- no term, from no term of each kind
no_term : (bytes : List ℕ) → ((p q : Bool) → IsNoKind p q bytes) → (t : Term) (rest : List ℕ) → HasUtf8 (Some t) → HasTagType (Some t) → bytes ≡ term_text t ++ rest → ⊥
unfolding term_text
no_term bytes h (Blank l) rest u tagged e = h true true l [] None rest u tt (λ a b. absurd (true≢false a)) e
no_term bytes h (Iri l) rest u tagged e = h true false l [] None rest u tt (λ a b. absurd (true≢false a)) e
no_term bytes h (Literal l d (Some tag)) rest u tagged e = h false true l [] (Some tag) rest u.0 u.2 (λ a b. absurd (true≢false b)) e
no_term bytes h (Literal l d None) rest u tagged e = by (bytes_eq d xsd_string) refl
  where
    by : (b : Bool) → bytes_eq d xsd_string ≡ b → ⊥
    by true k = h false true l [] None rest u.0 tt (λ a b. absurd (true≢false b)) (e ∙ ap (λ b. (if b then text false true l d None else text false false l d None) ++ rest) k)
    by false k = h false false l d None rest u.0 tt (λ a b. (u.1, k)) (e ∙ ap (λ b. (if b then text false true l d None else text false false l d None) ++ rest) k)

-- the bytes begin with this text
abbrev pub Begins : List ℕ → List ℕ → Type 0
Begins bytes prefix = (rest : List ℕ) × (bytes ≡ prefix ++ rest)

-- what the first text shows
pub after_literal : (bytes : List ℕ) → Begins bytes literal_start → IsNoLiteral bytes → IsNoTerm bytes
after_literal bytes b h = no_term bytes (λ r s. other_kind false true r s bytes (ap (λ x. get_or x 9 0) b.1) (literal_kind bytes h))

pub after_iri : (bytes : List ℕ) → Begins bytes (codes "{\"type\":\"uri\",\"value\":") → IsNoFramed (codes "{\"type\":\"uri\",\"value\":") (codes "}") bytes → IsNoTerm bytes
after_iri bytes b h = no_term bytes (λ r s. other_kind true false r s bytes (ap (λ x. get_or x 9 0) b.1) (iri_kind bytes h))

pub after_datatype : (bytes : List ℕ) → Begins bytes (codes "{\"datatype\":") → IsNoTyped bytes → IsNoTerm bytes
after_datatype bytes b h = no_term bytes (λ r s. other_kind false false r s bytes (ap (λ x. get_or x 9 0) b.1) (typed_kind bytes h))

-- the bytes do not begin with this text
abbrev pub BeginsNot : List ℕ → List ℕ → Type 0
BeginsNot bytes prefix = (rest : List ℕ) → bytes ≡ prefix ++ rest → ⊥

pub after_others : (bytes : List ℕ) → BeginsNot bytes literal_start → BeginsNot bytes (codes "{\"type\":\"uri\",\"value\":") → BeginsNot bytes (codes "{\"datatype\":")
    → IsNoFramed (codes "{\"type\":\"bnode\",\"value\":") (codes "}") bytes → IsNoTerm bytes
after_others bytes no_literal no_iri no_datatype h = no_term bytes kind
  where
    kind : (p q : Bool) → IsNoKind p q bytes
    kind true true = blank_kind bytes h
    kind true false = iri_kind bytes (λ s rest u e. no_iri (string_text s ++ (codes "}" ++ rest)) e)
    kind false true = literal_kind bytes (λ l tag rest u v e. no_literal (string_text l ++ (literal_end tag ++ rest)) e)
    kind false false = typed_kind bytes (λ d l rest u v other e. no_datatype (string_text d ++ (codes ",\"type\":\"literal\",\"value\":" ++ (string_text l ++ (codes "}" ++ rest)))) e)
