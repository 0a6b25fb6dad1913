-- The text of a term is read in one way only.
use Rattle.std.proofs.Common.{◌≡◌, ℕ, ◌==◌, ◌||◌, Bool, true, false, List, [], ◌++◌, get_or, drop, Option, None, Some, codes, refl, sym, ap, ◌∙◌, arith, append_assoc, if◌then◌else◌}
use Rattle.std.specs.Str.{bytes_eq}
use Rattle.std.proofs.lemmas.List.{append_cancel_left}
use Rattle.std.proofs.lemmas.Slice.Eq.{bytes_eq-Decides}
use Rattle.rdf_core.specs.Vocabulary.{rdf_lang_string, xsd_string}
use Rattle.rdf_core.specs.declared.term.Term.{Term}
use Rattle.rdf_core.specs.declared.term.Term.TheVariants.{Blank, Iri, Literal}
use Rattle.result_json.specs.Results.{string_text, term_text}
use Rattle.result_merge.specs.Absent.{literal_end}
use Rattle.result_merge.specs.Tags.{HasTagType}
use Rattle.result_merge.proofs.StringLaws.{string_same}

-- a text in a frame, and what follows
pub framed : (f s c a : List ℕ) → (f ++ (s ++ c)) ++ a ≡ f ++ (s ++ (c ++ a))
framed f s c a = append_assoc f (s ++ c) a ∙ ap (λ r. f ++ r) (append_assoc s c a)

-- two texts in frames
pub framed_two : (f s g t c a : List ℕ) → (f ++ (s ++ (g ++ (t ++ c)))) ++ a ≡ f ++ (s ++ (g ++ (t ++ (c ++ a))))
framed_two f s g t c a = framed f s (g ++ (t ++ c)) a ∙ ap (λ r. f ++ (s ++ r)) (framed g t c a)

-- ---- terms by two tests, a string, a datatype and a tag

abbrev tag_type : Option (List ℕ) → List ℕ
tag_type None = xsd_string
tag_type (Some tag) = rdf_lang_string

abbrev pub text : Bool → Bool → List ℕ → List ℕ → Option (List ℕ) → List ℕ
text true true l d o = codes "{\"type\":\"bnode\",\"value\":" ++ (string_text l ++ codes "}")
text true false l d o = codes "{\"type\":\"uri\",\"value\":" ++ (string_text l ++ codes "}")
text false true l d o = codes "{\"type\":\"literal\",\"value\":" ++ (string_text l ++ literal_end o)
text false false l d o = codes "{\"datatype\":" ++ (string_text d ++ (codes ",\"type\":\"literal\",\"value\":" ++ (string_text l ++ codes "}")))

abbrev term : Bool → Bool → List ℕ → List ℕ → Option (List ℕ) → Term
term true true l d o = Blank l
term true false l d o = Iri l
term false true l d o = Literal l (tag_type o) o
term false false l d o = Literal l d None

-- the byte at place 9 shows the tests
abbrev pub byte_of : Bool → Bool → ℕ
byte_of true true = 98
byte_of true false = 117
byte_of false true = 108
byte_of false false = 101

abbrev pub first_test : ℕ → Bool
first_test c = (c == 98) || (c == 117)

abbrev pub second_test : ℕ → Bool
second_test c = (c == 98) || (c == 108)

pub byte_shown : (p q : Bool) (l d : List ℕ) (o : Option (List ℕ)) (a : List ℕ) → get_or (text p q l d o ++ a) 9 0 ≡ byte_of p q
byte_shown true true l d o a = refl
byte_shown true false l d o a = refl
byte_shown false true l d o a = refl
byte_shown false false l d o a = refl

pub first_shown : (p q : Bool) → first_test (byte_of p q) ≡ p
first_shown true true = refl
first_shown true false = refl
first_shown false true = refl
first_shown false false = refl

pub second_shown : (p q : Bool) → second_test (byte_of p q) ≡ q
second_shown true true = refl
second_shown true false = refl
second_shown false true = refl
second_shown false false = refl

one_same : (f l m a b : List ℕ) → (f ++ (string_text l ++ codes "}")) ++ a ≡ (f ++ (string_text m ++ codes "}")) ++ b → (l ≡ m) × (a ≡ b)
one_same f l m a b e =
    let s = string_same l m (codes "}" ++ a) (codes "}" ++ b)
    (append_cancel_left f _ _ (sym (framed f (string_text l) (codes "}") a) ∙ e ∙ framed f (string_text m) (codes "}") b)) in
    (s.0, ap (drop 1) s.1)

tag_same : (o p : Option (List ℕ)) (a b : List ℕ) → literal_end o ++ a ≡ literal_end p ++ b → (o ≡ p) × (a ≡ b)
tag_same None None a b e = (refl, ap (drop 1) e)
tag_same None (Some u) a b e = absurd (omega (arith, ap (λ l. get_or l 0 0) e))
tag_same (Some t) None a b e = absurd (omega (arith, ap (λ l. get_or l 0 0) e))
tag_same (Some t) (Some u) a b e = let s = one_same (codes ",\"xml:lang\":") t u a b e in ((λ i. Some (s.0 i)), s.1)

by_tests : (p q : Bool) (l d : List ℕ) (o : Option (List ℕ)) (m c : List ℕ) (n : Option (List ℕ)) (a b : List ℕ) → text p q l d o ++ a ≡ text p q m c n ++ b → (term p q l d o ≡ term p q m c n) × (a ≡ b)
by_tests true true l d o m c n a b e = let s = one_same (codes "{\"type\":\"bnode\",\"value\":") l m a b e in ((λ i. Blank (s.0 i)), s.1)
by_tests true false l d o m c n a b e = let s = one_same (codes "{\"type\":\"uri\",\"value\":") l m a b e in ((λ i. Iri (s.0 i)), s.1)
by_tests false true l d o m c n a b e =
    let f = codes "{\"type\":\"literal\",\"value\":" in
    let s = string_same l m (literal_end o ++ a) (literal_end n ++ b) (append_cancel_left f _ _ (sym (framed f (string_text l) (literal_end o) a) ∙ e ∙ framed f (string_text m) (literal_end n) b)) in
    let t = tag_same o n a b s.1 in
    ((λ i. Literal (s.0 i) (tag_type (t.0 i)) (t.0 i)), t.1)
by_tests false false l d o m c n a b e =
    let f = codes "{\"datatype\":" in
    let g = codes ",\"type\":\"literal\",\"value\":" in
    let s = string_same d c (g ++ (string_text l ++ (codes "}" ++ a))) (g ++ (string_text m ++ (codes "}" ++ b)))
    (append_cancel_left f _ _ (sym (framed_two f (string_text d) g (string_text l) (codes "}") a) ∙ e ∙ framed_two f (string_text c) g (string_text m) (codes "}") b)) in
    let t = string_same l m (codes "}" ++ a) (codes "}" ++ b) (append_cancel_left g _ _ s.1) in
    ((λ i. Literal (t.0 i) (s.0 i) None), ap (drop 1) t.1)

same : (p q r s : Bool) (l d : List ℕ) (o : Option (List ℕ)) (m c : List ℕ) (n : Option (List ℕ)) (a b : List ℕ) → text p q l d o ++ a ≡ text r s m c n ++ b → (term p q l d o ≡ term r s m c n) × (a ≡ b)
same p q r s l d o m c n a b e =
    let byte : byte_of p q ≡ byte_of r s = sym (byte_shown p q l d o a) ∙ ap (λ x. get_or x 9 0) e ∙ byte_shown r s m c n b in
    let one : p ≡ r = sym (first_shown p q) ∙ ap first_test byte ∙ first_shown r s in
    let two : q ≡ s = sym (second_shown p q) ∙ ap second_test byte ∙ second_shown r s in
    let found = by_tests p q l d o m c n a b (e ∙ (λ i. text (sym one i) (sym two i) m c n ++ b)) in
    (found.0 ∙ (λ i. term (one i) (two i) m c n), found.1)

-- ---- the tests of a term

abbrev IsBy : Term → Type 0
IsBy t = (p q : Bool) × (l d : List ℕ) × (o : Option (List ℕ)) × (term_text t ≡ text p q l d o) × (t ≡ term p q l d o)

is_by : (t : Term) → HasTagType (Some t) → IsBy t
unfolding term_text
is_by (Blank l) h = (true, true, l, [], None, refl, refl)
is_by (Iri l) h = (true, false, l, [], None, refl, refl)
is_by (Literal l d (Some tag)) h = (false, true, l, [], Some tag, refl, (λ i. Literal l (h i) (Some tag)))
is_by (Literal l d None) h = by (bytes_eq d xsd_string) refl
  where
    by : (b : Bool) → bytes_eq d xsd_string ≡ b → IsBy (Literal l d None)
    by true e = (
      false,
      true,
      l,
      [],
      None,
      ap (λ b. if b then text false true l d None else text false false l d None) e,
      (λ i. Literal l ((bytes_eq-Decides d xsd_string).0 e i) None),
    )
    by false e = (false, false, l, d, None, ap (λ b. if b then text false true l d None else text false false l d None) e, refl)

-- the terms and what follows them
pub term_same : (t u : Term) → HasTagType (Some t) → HasTagType (Some u) → (a b : List ℕ) → term_text t ++ a ≡ term_text u ++ b → (t ≡ u) × (a ≡ b)
term_same t u h k a b e =
    let x = is_by t h in
    let y = is_by u k in
    let found = same x.0 x.1 y.0 y.1 x.2 x.3 x.4 y.2 y.3 y.4 a b (ap (λ l. l ++ a) (sym x.5) ∙ e ∙ ap (λ l. l ++ b) y.5) in
    (x.6 ∙ found.0 ∙ sym y.6, found.1)
