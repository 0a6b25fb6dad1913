-- What is known of the terms of a line.
use Rattle.std.proofs.Common.{◌≡◌, ℕ, Bool, true, false, cond, eqb, List, [], ◌∷◌, ◌++◌, map, Option, Some, None, refl, sym, ap, subst, ◌∙◌, append-nil, inl, inr, ◌⊎◌}
use Rattle.std.specs.Char.{to_ascii_lowercase}
use Rattle.std.specs.Str.{chars, encode_utf8_all, all_scalars}
use Rattle.std.proofs.lemmas.Str.{scalars-chars}
use Rattle.rdf_core.specs.declared.term.Term.{Term}
use Rattle.rdf_core.specs.QuadParts.{QuadParts}
use Rattle.rdf_core.specs.declared.term.Term.TheVariants.{Blank, Iri, Literal}
use Rattle.rdf_core.specs.Characters.{is_iri_char, all_pass, echar}
use Rattle.rdf_core.specs.Escapes.{IsIriPart, IsStringPart, Writes}
use Rattle.rdf_core.specs.Lexical.{is_tag, has_scheme}
use Rattle.nquads_core.specs.Terminal.{Terminal, iri_ref, blank_label, quoted, lang_tag, carets, dot, IsTerminal, is_label}
use Rattle.rdf_core.specs.Vocabulary.{xsd_string, rdf_lang_string}
use Rattle.nquads_core.specs.Grammar.{Splits, Subject, iri_subject, blank_subject, Predicate, iri_predicate, Object, iri_object, blank_object, plain_object, typed_object, tagged_object, GraphLabel, no_graph, iri_graph, blank_graph, HasStatement}
use Rattle.nquads_core.specs.Laws.{Occurs}
use Rattle.nquads_core.specs.Slices.{Joins, Denotes}
use Rattle.rdf_core.proofs.EscapeLaws.{and_is, and_parts, none_some}
use Rattle.std.proofs.lemmas.Option.{same_Some}
use lib.Utf8.{scalar}

pub sc_parts : (a b : List ℕ) → all_scalars (a ++ b) ≡ true → (all_scalars a ≡ true) × (all_scalars b ≡ true)
sc_parts [] b h = (refl, h)
sc_parts (c ∷ a) b h =
    let p = and_parts (scalar c) (all_scalars (a ++ b)) h in
    let q = sc_parts a b p.1 in
    (and_is (scalar c) (all_scalars a) p.0 q.0, q.1)

pub sc_join : (a b : List ℕ) → all_scalars a ≡ true → all_scalars b ≡ true → all_scalars (a ++ b) ≡ true
sc_join [] b h k = k
sc_join (c ∷ a) b h k = let p = and_parts (scalar c) (all_scalars a) h in and_is (scalar c) (all_scalars (a ++ b)) p.0 (sc_join a b p.1 k)

-- ---- the characters of texts

pub record GoodText (bytes : List ℕ) : Type 0 where
  pub chars : List ℕ
  pub scalars : all_scalars chars ≡ true
  pub utf8 : bytes ≡ encode_utf8_all chars

pub record GoodIri (bytes : List ℕ) : Type 0 where
  pub chars : List ℕ
  pub scalars : all_scalars chars ≡ true
  pub utf8 : bytes ≡ encode_utf8_all chars
  pub right : all_pass is_iri_char chars ≡ true
  pub scheme : has_scheme bytes ≡ true

pub record GoodLabel (bytes : List ℕ) : Type 0 where
  pub chars : List ℕ
  pub scalars : all_scalars chars ≡ true
  pub utf8 : bytes ≡ encode_utf8_all chars
  pub right : is_label chars ≡ true

pub record GoodTag (bytes : List ℕ) : Type 0 where
  pub tag : List ℕ
  pub right : is_tag tag ≡ true
  pub lower : bytes ≡ map to_ascii_lowercase tag

abbrev pub GoodTerminal : Terminal → Type 0
GoodTerminal (iri_ref bytes) = GoodIri bytes
GoodTerminal (blank_label bytes) = GoodLabel bytes
GoodTerminal (quoted bytes) = GoodText bytes
GoodTerminal (lang_tag bytes) = GoodTag bytes
GoodTerminal carets = Unit {0}
GoodTerminal dot = Unit {0}

abbrev pub GoodTerm : Term → Type 0
GoodTerm (Blank label) = GoodLabel label
GoodTerm (Iri text) = GoodIri text
GoodTerm (Literal lexical datatype None) = GoodText lexical × ((datatype ≡ xsd_string) ⊎ GoodIri datatype)
GoodTerm (Literal lexical datatype (Some tag)) = GoodText lexical × (datatype ≡ rdf_lang_string) × GoodTag tag

pick : (b : Bool) (v : ℕ) (y : Option ℕ) (c : ℕ) → scalar v ≡ true → (y ≡ Some c → scalar c ≡ true) → cond b (Some v) y ≡ Some c → scalar c ≡ true
pick true v y c s f e = subst (λ (x : ℕ). scalar x ≡ true) (same_Some v c e) s
pick false v y c s f e = f e

echar_scalar : (e c : ℕ) → echar e ≡ Some c → scalar c ≡ true
echar_scalar e c h =
    pick (eqb e 116) 9 _ c refl (pick (eqb e 98) 8 _ c refl (pick (eqb e 110) 10 _ c refl (pick (eqb e 114) 13 _ c refl
    (pick (eqb e 102) 12 _ c refl (pick (eqb e 34) 34 _ c refl (pick (eqb e 39) 39 _ c refl (pick (eqb e 92) 92 None c refl (λ n. absurd (none_some c n))))))))) h

iri_chars : (body cs : List ℕ) → all_scalars body ≡ true → Writes IsIriPart body cs → (all_scalars cs ≡ true) × (all_pass is_iri_char cs ≡ true)
iri_chars body [] s w = (refl, refl)
iri_chars body (c ∷ cs) s w =
    let p = sc_parts w.0 w.1 (ap all_scalars (sym w.2) ∙ s) in
    let q = iri_chars w.1 cs p.1 w.4 in
    let one : scalar c ≡ true = elim w.3.1 [ inl e ↦ (and_parts (scalar c) true (ap all_scalars (sym e) ∙ p.0)).0 | inr u ↦ u.scalar ] in
    (and_is (scalar c) (all_scalars cs) one q.0, and_is (is_iri_char c) (all_pass is_iri_char cs) w.3.0 q.1)

string_chars : (body cs : List ℕ) → all_scalars body ≡ true → Writes IsStringPart body cs → all_scalars cs ≡ true
string_chars body [] s w = refl
string_chars body (c ∷ cs) s w =
    let p = sc_parts w.0 w.1 (ap all_scalars (sym w.2) ∙ s) in
    let one : scalar c ≡ true = elim w.3 [
      | inl e ↦ (and_parts (scalar c) true (ap all_scalars (sym e.1) ∙ p.0)).0
      | inr k ↦ elim k [ inl u ↦ echar_scalar u.letter c u.names | inr u ↦ u.scalar ]
    ] in
    and_is (scalar c) (all_scalars cs) one (string_chars w.1 cs p.1 w.4)

good_terminal : (word : List ℕ) (k : Terminal) → all_scalars word ≡ true → IsTerminal word k → GoodTerminal k
good_terminal word (iri_ref bytes) s t =
    let b = sc_parts t.body (62 ∷ []) (and_parts true (all_scalars (t.body ++ 62 ∷ [])) (ap all_scalars (sym t.parts) ∙ s)).1 in
    let p = iri_chars t.body t.chars b.0 t.writes in
    record { chars = t.chars; scalars = p.0; utf8 = t.utf8; right = p.1; scheme = t.scheme }
good_terminal word (quoted bytes) s t =
    let b = sc_parts t.body (34 ∷ []) (and_parts true (all_scalars (t.body ++ 34 ∷ [])) (ap all_scalars (sym t.parts) ∙ s)).1 in
    record { chars = t.chars; scalars = string_chars t.body t.chars b.0 t.writes; utf8 = t.utf8 }
good_terminal word (blank_label bytes) s t =
    record { chars = t.label; scalars = ap all_scalars (sym t.parts) ∙ s; utf8 = t.utf8; right = t.right }
good_terminal word (lang_tag bytes) s t = record { tag = t.tag; right = t.right; lower = t.lower }
good_terminal word carets s t = tt
good_terminal word dot s t = tt

abbrev AllGood : List Terminal → Type 0
AllGood [] = Unit {0}
AllGood (k ∷ ks) = GoodTerminal k × AllGood ks

all_good : (cs : List ℕ) (ks : List Terminal) → all_scalars cs ≡ true → Splits cs ks → AllGood ks
all_good cs [] s h = tt
all_good cs (k ∷ ks) s h =
    let b = h.1 in
    let p = sc_parts b.blanks (b.word ++ h.0) (ap all_scalars (sym b.parts) ∙ s) in
    let q = sc_parts b.word h.0 p.1 in
    (good_terminal b.word k q.0 b.terminal, all_good h.0 ks q.1 h.2)

good_after : (a b : List Terminal) → AllGood (a ++ b) → AllGood b
good_after [] b h = h
good_after (k ∷ a) b h = good_after a b h.1

subject_good : {s : List Terminal} {t : Term} → Subject s t → (more : List Terminal) → AllGood (s ++ more) → GoodTerm t
subject_good (iri_subject {text}) more h = h.0
subject_good (blank_subject {label}) more h = h.0

predicate_good : {s : List Terminal} {t : Term} → Predicate s t → (more : List Terminal) → AllGood (s ++ more) → GoodTerm t
predicate_good (iri_predicate {text}) more h = h.0

object_good : {s : List Terminal} {t : Term} → Object s t → (more : List Terminal) → AllGood (s ++ more) → GoodTerm t
object_good (iri_object {text}) more h = h.0
object_good (blank_object {label}) more h = h.0
object_good (plain_object {lexical}) more h = (h.0, inl refl)
object_good (typed_object {lexical} {datatype}) more h = (h.0, inr h.1.1.0)
object_good (tagged_object {lexical} {tag}) more h = (h.0, refl, h.1.0)

graph_good : {s : List Terminal} {g : Option Term} → GraphLabel s g → (t : Term) → g ≡ Some t → (more : List Terminal) → AllGood (s ++ more) → GoodTerm t
graph_good no_graph t e more h = absurd (none_some t e)
graph_good (iri_graph {text}) t e more h = subst GoodTerm (same_Some (Iri text) t e) h.0
graph_good (blank_graph {label}) t e more h = subst GoodTerm (same_Some (Blank label) t e) h.0

pub term_good : (line : List ℕ) (q : QuadParts) (t : Term) → HasStatement line (Some q) → Occurs t q → GoodTerm t
term_good line q t s o =
    let st = s.derives in
    let good = all_good (chars line) s.terminals (scalars-chars line s.utf8) s.splits in
    let g0 = subst AllGood st.parts good in
    let g1 = good_after st.s (st.p ++ (st.o ++ (st.g ++ (dot ∷ [])))) g0 in
    let g2 = good_after st.p (st.o ++ (st.g ++ (dot ∷ []))) g1 in
    let g3 = good_after st.o (st.g ++ (dot ∷ [])) g2 in
    elim o [
      | inl e ↦ subst GoodTerm (sym e) (subject_good st.subject (st.p ++ (st.o ++ (st.g ++ (dot ∷ [])))) g0)
      | inr o2 ↦ elim o2 [
        | inl e ↦ subst GoodTerm (sym e) (predicate_good st.predicate (st.o ++ (st.g ++ (dot ∷ []))) g1)
        | inr o3 ↦ elim o3 [
          | inl e ↦ subst GoodTerm (sym e) (object_good st.object (st.g ++ (dot ∷ [])) g2)
          | inr e ↦ graph_good st.graph t e (dot ∷ []) g3
        ]
      ]
    ]

-- the terminals of a slice
joins_good : (cs : List ℕ) (ks : List Terminal) → all_scalars cs ≡ true → Joins cs ks [] → AllGood ks
joins_good cs [] s h = tt
joins_good cs (k ∷ ks) s h =
    let p = sc_parts h.0 h.1 (ap all_scalars (sym h.2) ∙ s) in
    (good_terminal h.0 k p.0 h.3, joins_good h.1 ks p.1 h.4)

pub slice_good : (raw : List ℕ) (t : Term) → Denotes raw t → GoodTerm t
slice_good raw t d =
    object_good d.object [] (subst AllGood (sym (append-nil d.terminals)) (joins_good (chars raw) d.terminals (scalars-chars raw d.utf8) d.joins))
