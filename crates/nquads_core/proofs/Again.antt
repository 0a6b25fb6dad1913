-- A term round-trips through its N-Quads form.
use Rattle.std.proofs.Common.{◌≡◌, ℕ, suc, ◌≤◌, ◌<◌, Bool, true, false, eqb, List, [], ◌∷◌, ◌++◌, length, map, Option, Some, None, refl, sym, ap, subst, ◌∙◌, append_assoc, append-nil, get_or, lit<, arith, inl, inr}
use Rattle.std.specs.Prelude.{◌&&◌, ◌||◌}
use Rattle.std.specs.List.{flat_map}
use Rattle.std.specs.Char.{is_ascii_alphabetic, is_ascii_alphanumeric, to_ascii_lowercase}
use Rattle.std.specs.Str.{NonePass, chars, encode_utf8_all, all_scalars}
use Rattle.std.specs.Char.{encode_utf8}
use Rattle.std.proofs.lemmas.Str.Ascii.{lowercase-lowercase}
use Rattle.std.proofs.lemmas.List.Concat.{flat_map-append}
use Rattle.std.proofs.lemmas.Bool.{eqb-true, cases_lt, lt-ltb}
use Rattle.std.proofs.lemmas.Bool.Decides.{nat_tests}
use Rattle.std.proofs.lemmas.Str.{encode_ascii, encodes-append, chars-encodes, inside_one, NoCharPasses-byte}
use Rattle.rdf_core.specs.declared.term.Term.{Term}
use Rattle.rdf_core.specs.QuadParts.{QuadParts}
use Rattle.rdf_core.specs.QuadFacts.{is_graph_name, is_iri, is_node}
use Rattle.rdf_core.specs.declared.term.Term.TheVariants.{Blank, Iri, Literal}
use Rattle.rdf_core.specs.Serialization.{serialization, suffix, escaped}
use Rattle.rdf_core.specs.declared.lexical.escapes.Inside.TheVariants.{Iri}
use Rattle.rdf_core.specs.Characters.{is_iri_char, is_label_start, is_label_char, is_name_start, is_pn_chars_base, all_pass}
use Rattle.rdf_core.specs.Characters.{begins}
use Rattle.rdf_core.specs.Escapes.{IsIriPart, IsStringPart, Writes}
use Rattle.rdf_core.specs.Lexical.{is_tag, is_tag_tail, is_subtags, has_scheme}
use Rattle.nquads_core.specs.Terminal.{Terminal, iri_ref, blank_label, quoted, lang_tag, carets, dot, IsTerminal, is_label, is_label_tail}
use Rattle.nquads_core.specs.LineParser.{iri_at, string_at, terminal_at, skip_blanks, next, node_of, literal_of, object_of, graph_of, whole, is_end, statement_at, line_at}
use Rattle.nquads_core.specs.Grammar.{HasStatement, Subject, iri_subject, blank_subject, Predicate, iri_predicate, Object, iri_object, blank_object, plain_object, typed_object, tagged_object, GraphLabel, no_graph, iri_graph, blank_graph}
use Rattle.nquads_core.specs.Slices.{Joins, Denotes}
use Rattle.rdf_core.specs.Vocabulary.{xsd_string, rdf_lang_string}
use Rattle.nquads_core.specs.Laws.{IsNQuadsTerm, LinesRoundTrip, QuadsRoundTrip, TermsRoundTrip, line_end, object_line, quad_line, with_object}
use Rattle.std.specs.Str.{bytes_eq}
use Rattle.std.proofs.lemmas.Slice.Eq.{bytes_eq-Decides}
use lib.Utf8.{scalar}
use Rattle.nquads_core.proofs.GoodTerms.{GoodText, GoodIri, GoodLabel, GoodTag, GoodTerm, term_good, sc_join}
use Rattle.rdf_core.proofs.EscapeSteps.{eqb_no}
use Rattle.nquads_core.proofs.Runs.{ascii_cons, primary_ascii, alnum_ascii, alpha_ascii}
use Rattle.rdf_core.proofs.EscapeSteps.{which}
use Rattle.rdf_core.proofs.EscapeLaws.{and_is, and_parts, none_some}
use Rattle.nquads_core.proofs.TokenSteps.{iri_body_again, string_body_again}
use Rattle.nquads_core.proofs.LineLaws.{line_sound}
use Rattle.nquads_core.proofs.Meaning.{OneLine}
use Rattle.nquads_core.proofs.RunLaws.{or_parts}
use Rattle.nquads_core.proofs.Followed.{label_followed, primary_followed, tag_followed}

-- ---- what follows an object

abbrev End : List ℕ
End = 32 ∷ 46 ∷ []

-- ---- tags

-- the lower case of a tag is a tag
lower_alpha : (c : ℕ) → is_ascii_alphabetic (to_ascii_lowercase c) ≡ is_ascii_alphabetic c
lower_alpha c = grind (arith, nat_tests)

lower_alnum : (c : ℕ) → is_ascii_alphanumeric (to_ascii_lowercase c) ≡ is_ascii_alphanumeric c
lower_alnum c = grind (arith, nat_tests)

lower_hyphen : (c : ℕ) → eqb (to_ascii_lowercase c) 45 ≡ eqb c 45
lower_hyphen c = grind (arith, nat_tests)

-- ---- IRIs and strings

raw_iri : (cs : List ℕ) → all_pass is_iri_char cs ≡ true → Writes IsIriPart cs cs
raw_iri [] h = refl
raw_iri (c ∷ cs) h = let p = and_parts (is_iri_char c) (all_pass is_iri_char cs) h in (c ∷ [], cs, refl, (p.0, inl refl), raw_iri cs p.1)

iri_again : (cs bytes rest : List ℕ) → all_pass is_iri_char cs ≡ true → bytes ≡ encode_utf8_all cs → has_scheme bytes ≡ true → iri_at (cs ++ 62 ∷ rest) ≡ Some (bytes, rest)
unfolding iri_at
iri_again cs bytes rest h u s =
    rw (iri_body_again cs cs rest (raw_iri cs h), ← u, s) refl

escaped_part : (c : ℕ) → IsStringPart (escaped c) c
escaped_part c =
    elim (which (eqb c 34)) [
      | inl h ↦ rw (eqb-true c 34 h) (inr (inl (record { letter = 34; parts = refl; names = refl })))
      | inr h1 ↦ elim (which (eqb c 92)) [
        | inl h ↦ rw (eqb-true c 92 h) (inr (inl (record { letter = 92; parts = refl; names = refl })))
        | inr h2 ↦ elim (which (eqb c 10)) [
          | inl h ↦ rw (eqb-true c 10 h) (inr (inl (record { letter = 110; parts = refl; names = refl })))
          | inr h3 ↦ elim (which (eqb c 13)) [
            | inl h ↦ rw (eqb-true c 13 h) (inr (inl (record { letter = 114; parts = refl; names = refl })))
            | inr h4 ↦ rw (h1, h2, h3, h4) (inl (refl, refl))
          ]
        ]
      ]
    ]

escaped_writes : (cs : List ℕ) → Writes IsStringPart (flat_map escaped cs) cs
escaped_writes [] = refl
escaped_writes (c ∷ cs) = (escaped c, flat_map escaped cs, refl, escaped_part c, escaped_writes cs)

string_again : (cs rest : List ℕ) → string_at (flat_map escaped cs ++ 34 ∷ rest) ≡ Some (encode_utf8_all cs, rest)
unfolding string_at
string_again cs rest = string_body_again cs (flat_map escaped cs) rest (escaped_writes cs)

-- ---- the lower case of a tag

lower_begins : (p : ℕ → Bool) (cs : List ℕ) → ((c : ℕ) → p (to_ascii_lowercase c) ≡ p c) → begins p (map to_ascii_lowercase cs) ≡ begins p cs
lower_begins p [] h = refl
lower_begins p (c ∷ cs) h = h c

lower_subtags : (cs : List ℕ) → is_subtags (map to_ascii_lowercase cs) ≡ is_subtags cs
lower_subtags [] = refl
lower_subtags (c ∷ cs) = rw (lower_alnum c, lower_hyphen c, lower_begins is_ascii_alphanumeric cs lower_alnum, lower_subtags cs) refl

lower_primary : (cs : List ℕ) → is_tag_tail (map to_ascii_lowercase cs) ≡ is_tag_tail cs
lower_primary [] = refl
lower_primary (c ∷ cs) = rw (lower_alpha c, lower_hyphen c, lower_begins is_ascii_alphanumeric cs lower_alnum, lower_subtags cs, lower_primary cs) refl

lower_tag : (cs : List ℕ) → is_tag cs ≡ true → is_tag (map to_ascii_lowercase cs) ≡ true
lower_tag cs h = rw (lower_begins is_ascii_alphabetic cs lower_alpha, lower_primary cs) h

lower_twice : (cs : List ℕ) → map to_ascii_lowercase (map to_ascii_lowercase cs) ≡ map to_ascii_lowercase cs
lower_twice [] = refl
lower_twice (c ∷ cs) = rw (lowercase-lowercase c, lower_twice cs) refl

-- ---- no line end

abbrev is_line_end : ℕ → Bool
is_line_end c = eqb c 10 || eqb c 13

false_true : false ≡ true → ⊥
false_true e = cc

no_end : (p : ℕ → Bool) (c : ℕ) → p 10 ≡ false → p 13 ≡ false → p c ≡ true → is_line_end c ≡ false
no_end p c a b h =
    elim (which (is_line_end c)) [
      | inl e ↦ elim (or_parts (eqb c 10) (eqb c 13) e) [
        | inl k ↦ absurd (false_true (sym a ∙ ap p (sym (eqb-true c 10 k)) ∙ h))
        | inr k ↦ absurd (false_true (sym b ∙ ap p (sym (eqb-true c 13 k)) ∙ h))
      ]
      | inr e ↦ e
    ]

none_join : (a b : List ℕ) → NonePass is_line_end a → NonePass is_line_end b → NonePass is_line_end (a ++ b)
none_join [] b h k = k
none_join (c ∷ a) b h k = (h.0, none_join a b h.1 k)

start_none : (c : ℕ) → is_label_start c ≡ true → is_line_end c ≡ false
unfolding is_label_start is_name_start is_pn_chars_base
start_none c h = no_end is_label_start c refl refl h

char_none : (c : ℕ) → (is_label_char c || eqb c 46) ≡ true → is_line_end c ≡ false
unfolding is_label_char is_label_start is_name_start is_pn_chars_base
char_none c h = no_end (λ x. is_label_char x || eqb x 46) c refl refl h

tail_none : (tail : List ℕ) → is_label_tail tail ≡ true → NonePass is_line_end tail
tail_none [] h = tt
tail_none (c ∷ []) h = (char_none c (rw h refl), tt)
tail_none (c ∷ d ∷ tail) h =
    let p = and_parts (is_label_char c || eqb c 46) (is_label_tail (d ∷ tail)) h in
    (char_none c p.0, tail_none (d ∷ tail) p.1)

label_none : (cs : List ℕ) → is_label cs ≡ true → NonePass is_line_end cs
label_none [] h = tt
label_none (c ∷ tail) h = let p = and_parts (is_label_start c) (is_label_tail tail) h in (start_none c p.0, tail_none tail p.1)

iri_none : (cs : List ℕ) → all_pass is_iri_char cs ≡ true → NonePass is_line_end cs
iri_none [] h = tt
iri_none (c ∷ cs) h = let p = and_parts (is_iri_char c) (all_pass is_iri_char cs) h in (no_end is_iri_char c refl refl p.0, iri_none cs p.1)

alnum_none : (c : ℕ) (b : Bool) → (is_ascii_alphanumeric c || (eqb c 45 && b)) ≡ true → is_line_end c ≡ false
alnum_none c b h = grind (arith, nat_tests)

alpha_none : (c : ℕ) → is_ascii_alphabetic c ≡ true → is_line_end c ≡ false
alpha_none c h = no_end is_ascii_alphabetic c refl refl h

subtags_none : (cs : List ℕ) → is_subtags cs ≡ true → NonePass is_line_end cs
subtags_none [] h = tt
subtags_none (c ∷ cs) h =
    let p = and_parts (is_ascii_alphanumeric c || (eqb c 45 && begins is_ascii_alphanumeric cs)) (is_subtags cs) h in
    (alnum_none c (begins is_ascii_alphanumeric cs) p.0, subtags_none cs p.1)

primary_none : (cs : List ℕ) → is_tag_tail cs ≡ true → NonePass is_line_end cs
primary_none [] h = tt
primary_none (c ∷ cs) h =
    elim (or_parts (is_ascii_alphabetic c && is_tag_tail cs) ((eqb c 45 && begins is_ascii_alphanumeric cs) && is_subtags cs) h) [
      | inl k ↦ let p = and_parts (is_ascii_alphabetic c) (is_tag_tail cs) k in (alpha_none c p.0, primary_none cs p.1)
      | inr k ↦
          let p = and_parts (eqb c 45 && begins is_ascii_alphanumeric cs) (is_subtags cs) k in
          let q = and_parts (eqb c 45) (begins is_ascii_alphanumeric cs) p.0 in
          (rw (eqb-true c 45 q.0) refl, subtags_none cs p.1)
    ]

escaped_none : (c : ℕ) → NonePass is_line_end (escaped c)
escaped_none c =
    elim (which (eqb c 34)) [
      | inl h ↦ rw (eqb-true c 34 h) (refl, (refl, tt))
      | inr h1 ↦ elim (which (eqb c 92)) [
        | inl h ↦ rw (eqb-true c 92 h) (refl, (refl, tt))
        | inr h2 ↦ elim (which (eqb c 10)) [
          | inl h ↦ rw (eqb-true c 10 h) (refl, (refl, tt))
          | inr h3 ↦ elim (which (eqb c 13)) [
            | inl h ↦ rw (eqb-true c 13 h) (refl, (refl, tt))
            | inr h4 ↦ rw (h1, h2, h3, h4) (rw (h3, h4) refl, tt)
          ]
        ]
      ]
    ]

lexical_none : (cs : List ℕ) → NonePass is_line_end (flat_map escaped cs)
lexical_none [] = tt
lexical_none (c ∷ cs) = none_join (escaped c) (flat_map escaped cs) (escaped_none c) (lexical_none cs)

-- ---- escapes in UTF-8

high_bytes : (bs : List ℕ) → ((k : ℕ) → k < length bs → 128 ≤ get_or bs k 0) → flat_map escaped bs ≡ bs
high_bytes [] h = refl
high_bytes (b ∷ bs) h =
    let l : 128 ≤ b = h 0 (omega arith) in
    rw (eqb_no b 34 (λ e. omega arith), eqb_no b 92 (λ e. omega arith), eqb_no b 10 (λ e. omega arith), eqb_no b 13 (λ e. omega arith))
    (ap (λ (y : List ℕ). b ∷ y) (high_bytes bs (λ k m. h (suc k) (omega arith))))

low_char : (c : ℕ) → c < 128 → encode_utf8_all (escaped c) ≡ escaped c
low_char c l =
    elim (which (eqb c 34)) [
      | inl h ↦ rw (eqb-true c 34 h) (ascii_cons 92 (34 ∷ []) (lit< tt) (ascii_cons 34 [] (lit< tt) refl))
      | inr h1 ↦ elim (which (eqb c 92)) [
        | inl h ↦ rw (eqb-true c 92 h) (ascii_cons 92 (92 ∷ []) (lit< tt) (ascii_cons 92 [] (lit< tt) refl))
        | inr h2 ↦ elim (which (eqb c 10)) [
          | inl h ↦ rw (eqb-true c 10 h) (ascii_cons 92 (110 ∷ []) (lit< tt) (ascii_cons 110 [] (lit< tt) refl))
          | inr h3 ↦ elim (which (eqb c 13)) [
            | inl h ↦ rw (eqb-true c 13 h) (ascii_cons 92 (114 ∷ []) (lit< tt) (ascii_cons 114 [] (lit< tt) refl))
            | inr h4 ↦ rw (h1, h2, h3, h4) (ascii_cons c [] l refl)
          ]
        ]
      ]
    ]

one_escaped : (c : ℕ) → flat_map escaped (encode_utf8 c) ≡ encode_utf8_all (escaped c)
one_escaped c =
    elim (cases_lt c 128) [
      | inl l ↦ rw (encode_ascii c l) (append-nil (escaped c) ∙ sym (low_char c l))
      | inr l ↦
          let high = high_bytes (encode_utf8 c) (λ k m. elim (cases_lt (get_or (encode_utf8 c) k 0) 128) [
            | inl n ↦ absurd (let e = inside_one c [] (encode_utf8 c) k (sym (append-nil (encode_utf8 c))) m n in omega (arith, e))
            | inr n ↦ n
          ]) in
          rw (eqb_no c 34 (λ e. omega arith), eqb_no c 92 (λ e. omega arith), eqb_no c 10 (λ e. omega arith), eqb_no c 13 (λ e. omega arith)) (high ∙ sym (append-nil (encode_utf8 c)))
    ]

lexical_utf8 : (cs : List ℕ) → flat_map escaped (encode_utf8_all cs) ≡ encode_utf8_all (flat_map escaped cs)
lexical_utf8 [] = refl
lexical_utf8 (c ∷ cs) =
    flat_map-append escaped (encode_utf8 c) (encode_utf8_all cs) ∙ ap (λ (y : List ℕ). y ++ flat_map escaped (encode_utf8_all cs)) (one_escaped c) ∙ ap (λ (y : List ℕ). encode_utf8_all (escaped c) ++ y) (lexical_utf8 cs) ∙ sym (encodes-append (escaped c) (flat_map escaped cs))

-- ---- terms

next_dot : next (32 ∷ 46 ∷ []) ≡ Some (dot, [])
unfolding skip_blanks terminal_at
next_dot = refl

next_label : (cs R : List ℕ) → is_label cs ≡ true → next (95 ∷ 58 ∷ cs ++ 32 ∷ R) ≡ Some (blank_label (encode_utf8_all cs), 32 ∷ R)
unfolding skip_blanks terminal_at
next_label cs R h = rw (label_followed cs R h) refl

-- a blank before a terminal is skipped
next_blank : (cs : List ℕ) → next (32 ∷ cs) ≡ next cs
unfolding skip_blanks
next_blank cs = refl

next_iri : (cs bytes rest : List ℕ) → all_pass is_iri_char cs ≡ true → bytes ≡ encode_utf8_all cs → has_scheme bytes ≡ true → next (60 ∷ (cs ++ 62 ∷ rest)) ≡ Some (iri_ref bytes, rest)
unfolding skip_blanks terminal_at
next_iri cs bytes rest h u s = rw (iri_again cs bytes rest h u s) refl

next_string : (cs rest : List ℕ) → next (34 ∷ (flat_map escaped cs ++ 34 ∷ rest)) ≡ Some (quoted (encode_utf8_all cs), rest)
unfolding skip_blanks terminal_at
next_string cs rest = rw (string_again cs rest) refl

next_tag : (cs R : List ℕ) → is_tag cs ≡ true → next (64 ∷ cs ++ 32 ∷ R) ≡ Some (lang_tag (map to_ascii_lowercase cs), 32 ∷ R)
unfolding skip_blanks terminal_at
next_tag cs R h = rw (tag_followed cs R h) refl

next_carets : (rest : List ℕ) → next (94 ∷ 94 ∷ rest) ≡ Some (carets, rest)
unfolding skip_blanks terminal_at
next_carets rest = refl

enc_cons : (c : ℕ) (cs : List ℕ) → c < 128 → encode_utf8_all (c ∷ cs) ≡ c ∷ encode_utf8_all cs
enc_cons c cs h = rw (encode_ascii c h) refl

-- a term as its serialization has it: the characters, which hold no line end, and its terminals
record Written (t : Term) : Type 0 where
  S : List ℕ
  scalars : all_scalars S ≡ true
  utf8 : serialization t ≡ encode_utf8_all S
  plain : NonePass is_line_end S
  terminals : List Terminal
  joins : Joins S terminals []
  object : Object terminals t

-- what follows a term in a line: a blank, and then a terminal that continues no literal
record Follows (R : List ℕ) (w : Terminal × List ℕ) : Type 0 where
  reads : next (32 ∷ R) ≡ Some w
  ends : (lexical : List ℕ) → literal_of lexical w ≡ Some (Literal lexical xsd_string None, w)

-- such characters are read as the term, and then what follows
record IsRead (t : Term) (S R : List ℕ) (w : Terminal × List ℕ) : Type 0 where
  k : Terminal
  r : List ℕ
  v : Terminal × List ℕ
  first : next (S ++ 32 ∷ R) ≡ Some (k, r)
  second : next r ≡ Some v
  object : object_of k v ≡ Some (t, w)

record IsWritten (t : Term) : Type 0 where
  form : Written t
  read : (R : List ℕ) (w : Terminal × List ℕ) → Follows R w → IsRead t form.S R w

-- a term that is no literal is one terminal
record IsNode (t : Term) : Type 0 where
  form : Written t
  k : Terminal
  node : node_of k ≡ Some t
  one : (v : Terminal × List ℕ) → object_of k v ≡ Some (t, v)
  read : (R : List ℕ) → next (form.S ++ 32 ∷ R) ≡ Some (k, 32 ∷ R)

node_written : (t : Term) → IsNode t → IsWritten t
node_written t n = record {
  form = n.form;
  read = λ R w f. record { k = n.k; r = 32 ∷ R; v = w; first = n.read R; second = f.reads; object = n.one w };
}

-- a text that is one terminal
one_joins : (word : List ℕ) (k : Terminal) → IsTerminal word k → Joins word (k ∷ []) []
one_joins word k t = (word, [], sym (append-nil word), t, refl)

iri_joins : (text : List ℕ) (g : GoodIri text) → Joins (60 ∷ (g.chars ++ 62 ∷ [])) (iri_ref text ∷ []) []
iri_joins text g =
    one_joins (60 ∷ (g.chars ++ 62 ∷ [])) (iri_ref text) (record { body = g.chars; chars = g.chars; parts = refl; writes = raw_iri g.chars g.right; utf8 = g.utf8; scheme = g.scheme })

label_node : (label : List ℕ) → GoodLabel label → IsNode (Blank label)
label_node label g = record {
  form = record {
    S = 95 ∷ 58 ∷ g.chars;
    scalars = g.scalars;
    utf8 = sym (enc_cons 95 (58 ∷ g.chars) (lit< tt) ∙ ap (λ (y : List ℕ). 95 ∷ y) (enc_cons 58 g.chars (lit< tt) ∙ ap (λ (y : List ℕ). 58 ∷ y) (sym g.utf8)));
    plain = (refl, (refl, label_none g.chars g.right));
    terminals = blank_label label ∷ [];
    joins = one_joins (95 ∷ 58 ∷ g.chars) (blank_label label) (record { label = g.chars; parts = refl; right = g.right; utf8 = g.utf8 });
    object = blank_object;
  };
  k = blank_label label;
  node = refl;
  one = λ v. refl;
  read = λ R. next_label g.chars R g.right ∙ ap (λ (y : List ℕ). Some (blank_label y, 32 ∷ R)) (sym g.utf8);
}

iri_utf8 : (cs bytes : List ℕ) → bytes ≡ encode_utf8_all cs → 60 ∷ (bytes ++ 62 ∷ []) ≡ encode_utf8_all (60 ∷ (cs ++ 62 ∷ []))
iri_utf8 cs bytes u =
    sym (enc_cons 60 (cs ++ 62 ∷ []) (lit< tt) ∙ ap (λ (y : List ℕ). 60 ∷ y) (encodes-append cs (62 ∷ []) ∙ ap (λ (y : List ℕ). encode_utf8_all cs ++ y) (enc_cons 62 [] (lit< tt)) ∙ ap (λ (y : List ℕ). y ++ 62 ∷ []) (sym u)))

iri_node : (text : List ℕ) → GoodIri text → IsNode (Iri text)
iri_node text g = record {
  form = record {
    S = 60 ∷ (g.chars ++ 62 ∷ []);
    scalars = sc_join g.chars (62 ∷ []) g.scalars refl;
    utf8 = iri_utf8 g.chars text g.utf8;
    plain = (refl, none_join g.chars (62 ∷ []) (iri_none g.chars g.right) (refl, tt));
    terminals = iri_ref text ∷ [];
    joins = iri_joins text g;
    object = iri_object;
  };
  k = iri_ref text;
  node = refl;
  one = λ v. refl;
  read = λ R. ap (λ (y : List ℕ). next (60 ∷ y)) (append_assoc g.chars (62 ∷ []) (32 ∷ R)) ∙ next_iri g.chars text (32 ∷ R) g.right g.utf8 g.scheme;
}

escaped_scalars : (c : ℕ) → scalar c ≡ true → all_scalars (escaped c) ≡ true
escaped_scalars c s =
    elim (which (eqb c 34)) [
      | inl h ↦ rw h refl
      | inr h1 ↦ elim (which (eqb c 92)) [
        | inl h ↦ rw (h1, h) refl
        | inr h2 ↦ elim (which (eqb c 10)) [
          | inl h ↦ rw (h1, h2, h) refl
          | inr h3 ↦ elim (which (eqb c 13)) [
            | inl h ↦ rw (h1, h2, h3, h) refl
            | inr h4 ↦ rw (h1, h2, h3, h4) (and_is (scalar c) true s refl)
          ]
        ]
      ]
    ]

lexical_scalars : (cs : List ℕ) → all_scalars cs ≡ true → all_scalars (flat_map escaped cs) ≡ true
lexical_scalars [] h = refl
lexical_scalars (c ∷ cs) h = let p = and_parts (scalar c) (all_scalars cs) h in sc_join (escaped c) (flat_map escaped cs) (escaped_scalars c p.0) (lexical_scalars cs p.1)

lit_utf8 : (lex cs B suf : List ℕ) → lex ≡ encode_utf8_all cs → B ≡ encode_utf8_all suf → 34 ∷ (flat_map escaped lex ++ 34 ∷ B) ≡ encode_utf8_all (34 ∷ (flat_map escaped cs ++ 34 ∷ suf))
lit_utf8 lex cs B suf u v =
    sym (enc_cons 34 (flat_map escaped cs ++ 34 ∷ suf) (lit< tt) ∙ ap (λ (y : List ℕ). 34 ∷ y)
    (encodes-append (flat_map escaped cs) (34 ∷ suf) ∙ ap (λ (y : List ℕ). encode_utf8_all (flat_map escaped cs) ++ y) (enc_cons 34 suf (lit< tt) ∙ ap (λ (y : List ℕ). 34 ∷ y) (sym v))
    ∙ ap (λ (y : List ℕ). y ++ 34 ∷ B) (sym (lexical_utf8 cs) ∙ ap (λ (y : List ℕ). flat_map escaped y) (sym u))))

-- what follows a closing quote: a tag, a datatype or nothing, and then what follows the literal
record IsSuffix (lex dt : List ℕ) (tag : Option (List ℕ)) (suf R : List ℕ) (w : Terminal × List ℕ) : Type 0 where
  v : Terminal × List ℕ
  reads : next (suf ++ 32 ∷ R) ≡ Some v
  literal : literal_of lex v ≡ Some (Literal lex dt tag, w)

written_literal : (lex dt : List ℕ) (tag : Option (List ℕ)) → GoodText lex → (suf : List ℕ) → suffix dt tag ≡ encode_utf8_all suf → all_scalars suf ≡ true → NonePass is_line_end suf
    → (ks : List Terminal) → Joins suf ks [] → Object (quoted lex ∷ ks) (Literal lex dt tag)
    → ((R : List ℕ) (w : Terminal × List ℕ) → Follows R w → IsSuffix lex dt tag suf R w) → IsWritten (Literal lex dt tag)
written_literal lex dt tag g suf u sc np ks j o e = record {
  form = record {
    S = 34 ∷ (flat_map escaped g.chars ++ 34 ∷ suf);
    scalars = sc_join (flat_map escaped g.chars) (34 ∷ suf) (lexical_scalars g.chars g.scalars) sc;
    utf8 = lit_utf8 lex g.chars (suffix dt tag) suf g.utf8 u;
    plain = (refl, none_join (flat_map escaped g.chars) (34 ∷ suf) (lexical_none g.chars) (refl, np));
    terminals = quoted lex ∷ ks;
    joins = (
      34 ∷ (flat_map escaped g.chars ++ 34 ∷ []),
      suf,
      ap (λ (y : List ℕ). 34 ∷ y) (sym (append_assoc (flat_map escaped g.chars) (34 ∷ []) suf)),
      record { body = flat_map escaped g.chars; chars = g.chars; parts = refl; writes = escaped_writes g.chars; utf8 = g.utf8 },
      j,
    );
    object = o;
  };
  read = λ R w f. let x = e R w f in record {
    k = quoted lex;
    r = suf ++ 32 ∷ R;
    v = x.v;
    first = ap (λ (y : List ℕ). next (34 ∷ y)) (append_assoc (flat_map escaped g.chars) (34 ∷ suf) (32 ∷ R)) ∙ next_string g.chars (suf ++ 32 ∷ R) ∙ ap (λ (y : List ℕ). Some (quoted y, suf ++ 32 ∷ R)) (sym g.utf8);
    second = x.reads;
    object = x.literal;
  };
}

plain_literal : (lex : List ℕ) → GoodText lex → IsWritten (Literal lex xsd_string None)
plain_literal lex g = written_literal lex xsd_string None g [] refl refl tt [] refl plain_object (λ R w f. record { v = w; reads = f.reads; literal = f.ends lex })

typed_suffix : (lex dt : List ℕ) (i : GoodIri dt) (R : List ℕ) (w : Terminal × List ℕ) → Follows R w → IsSuffix lex dt None (94 ∷ 94 ∷ 60 ∷ (i.chars ++ 62 ∷ [])) R w
typed_suffix lex dt i R w f =
    let iri = ap (λ (y : List ℕ). next (60 ∷ y)) (append_assoc i.chars (62 ∷ []) (32 ∷ R)) ∙ next_iri i.chars dt (32 ∷ R) i.right i.utf8 i.scheme in
    record {
      v = (carets, 60 ∷ (i.chars ++ 62 ∷ []) ++ 32 ∷ R);
      reads = next_carets (60 ∷ (i.chars ++ 62 ∷ []) ++ 32 ∷ R);
      literal = rw iri (rw f.reads refl);
    }

typed_literal : (lex dt : List ℕ) → GoodText lex → GoodIri dt → IsWritten (Literal lex dt None)
typed_literal lex dt g i =
    elim (which (bytes_eq dt xsd_string)) [
      | inl h ↦ subst (λ (y : List ℕ). IsWritten (Literal lex y None)) (sym ((bytes_eq-Decides dt xsd_string).0 h)) (plain_literal lex g)
      | inr h ↦
          let enc = enc_cons 94 (94 ∷ 60 ∷ (i.chars ++ 62 ∷ [])) (lit< tt) ∙ ap (λ (y : List ℕ). 94 ∷ y) (enc_cons 94 (60 ∷ (i.chars ++ 62 ∷ [])) (lit< tt) ∙ ap (λ (y : List ℕ). 94 ∷ y) (sym (iri_utf8 i.chars dt i.utf8))) in
          written_literal lex dt None g (94 ∷ 94 ∷ 60 ∷ (i.chars ++ 62 ∷ [])) (rw h (sym enc)) (sc_join i.chars (62 ∷ []) i.scalars refl)
          (refl, (refl, (refl, none_join i.chars (62 ∷ []) (iri_none i.chars i.right) (refl, tt))))
          (carets ∷ iri_ref dt ∷ []) (94 ∷ 94 ∷ [], 60 ∷ (i.chars ++ 62 ∷ []), refl, refl, iri_joins dt i) typed_object
          (typed_suffix lex dt i)
    ]

tag_ascii : (cs : List ℕ) → is_tag_tail cs ≡ true → encode_utf8_all cs ≡ cs
tag_ascii cs h = ap (λ (y : List ℕ × List ℕ). encode_utf8_all y.0) (sym (primary_followed cs (46 ∷ []) h)) ∙ primary_ascii (cs ++ End) ∙ ap (λ (y : List ℕ × List ℕ). y.0) (primary_followed cs (46 ∷ []) h)

low_scalar : (c : ℕ) → c < 128 → scalar c ≡ true
low_scalar c h = rw (lt-ltb c 55296 (omega arith)) refl

subtags_scalars : (cs : List ℕ) → is_subtags cs ≡ true → all_scalars cs ≡ true
subtags_scalars [] h = refl
subtags_scalars (c ∷ cs) h =
    let p = and_parts (is_ascii_alphanumeric c || (eqb c 45 && begins is_ascii_alphanumeric cs)) (is_subtags cs) h in
    and_is (scalar c) (all_scalars cs) (low_scalar c (alnum_ascii c (begins is_ascii_alphanumeric cs) p.0)) (subtags_scalars cs p.1)

tag_scalars : (cs : List ℕ) → is_tag_tail cs ≡ true → all_scalars cs ≡ true
tag_scalars [] h = refl
tag_scalars (c ∷ cs) h =
    elim (or_parts (is_ascii_alphabetic c && is_tag_tail cs) ((eqb c 45 && begins is_ascii_alphanumeric cs) && is_subtags cs) h) [
      | inl k ↦ let p = and_parts (is_ascii_alphabetic c) (is_tag_tail cs) k in and_is (scalar c) (all_scalars cs) (low_scalar c (alpha_ascii c p.0)) (tag_scalars cs p.1)
      | inr k ↦
          let p = and_parts (eqb c 45 && begins is_ascii_alphanumeric cs) (is_subtags cs) k in
          let q = and_parts (eqb c 45) (begins is_ascii_alphanumeric cs) p.0 in
          and_is (scalar c) (all_scalars cs) (rw (eqb-true c 45 q.0) refl) (subtags_scalars cs p.1)
    ]

tagged_literal : (lex tag : List ℕ) → GoodText lex → GoodTag tag → IsWritten (Literal lex rdf_lang_string (Some tag))
tagged_literal lex tag g t =
    let T = map to_ascii_lowercase t.tag in
    let right : is_tag (map to_ascii_lowercase t.tag) ≡ true = lower_tag t.tag t.right in
    let p = and_parts (begins is_ascii_alphabetic T) (is_tag_tail T) right in
    written_literal lex rdf_lang_string (Some tag) g (64 ∷ T) (sym (enc_cons 64 T (lit< tt) ∙ ap (λ (y : List ℕ). 64 ∷ y) (tag_ascii T p.1 ∙ sym t.lower))) (tag_scalars T p.1) (refl, primary_none T p.1)
    (lang_tag tag ∷ []) (one_joins (64 ∷ T) (lang_tag tag) (record { tag = T; parts = refl; right = right; lower = t.lower ∙ sym (lower_twice t.tag) })) tagged_object
    (λ R w f. record {
      v = (lang_tag tag, 32 ∷ R);
      reads = next_tag T R right ∙ ap (λ (y : List ℕ). Some (lang_tag y, 32 ∷ R)) (lower_twice t.tag ∙ sym t.lower);
      literal = rw f.reads refl;
    })

written : (t : Term) → GoodTerm t → IsWritten t
written (Blank label) g = node_written (Blank label) (label_node label g)
written (Iri text) g = node_written (Iri text) (iri_node text g)
written (Literal lex dt None) g =
    elim g.1 [ inl e ↦ subst (λ (y : List ℕ). IsWritten (Literal lex y None)) (sym e) (plain_literal lex g.0) | inr i ↦ typed_literal lex dt g.0 i ]
written (Literal lex dt (Some tag)) g = subst (λ (y : List ℕ). IsWritten (Literal lex y (Some tag))) (sym g.1) (tagged_literal lex tag g.0 g.2)

good_node : (t : Term) → is_node t ≡ true → GoodTerm t → IsNode t
good_node (Blank label) h g = label_node label g
good_node (Iri text) h g = iri_node text g
good_node (Literal lex dt tag) h g = absurd cc

-- the serialization denotes the term
pub good_denotes : (t : Term) → GoodTerm t → Denotes (serialization t) t
good_denotes t g =
    let w = (written t g).form in
    record {
      utf8 = (w.S, (w.scalars, sym w.utf8));
      terminals = w.terminals;
      joins = subst (λ (y : List ℕ). Joins y w.terminals []) (sym (ap chars w.utf8 ∙ chars-encodes w.S w.scalars)) w.joins;
      object = w.object;
    }

-- ---- the line

-- the characters of terms with a blank after each
blank_utf8 : (S bytes : List ℕ) (t : Term) (h : Written t) → bytes ≡ encode_utf8_all S → serialization t ++ 32 ∷ bytes ≡ encode_utf8_all (h.S ++ 32 ∷ S)
blank_utf8 S bytes t h e =
    sym (encodes-append h.S (32 ∷ S) ∙ ap (λ (y : List ℕ). encode_utf8_all h.S ++ y) (enc_cons 32 S (lit< tt) ∙ ap (λ (y : List ℕ). 32 ∷ y) (sym e)) ∙ ap (λ (y : List ℕ). y ++ 32 ∷ bytes) (sym h.utf8))

blank_scalars : (S : List ℕ) (t : Term) (h : Written t) → all_scalars S ≡ true → all_scalars (h.S ++ 32 ∷ S) ≡ true
blank_scalars S t h e = sc_join h.S (32 ∷ S) h.scalars e

blank_none : (S : List ℕ) (t : Term) (h : Written t) → NonePass is_line_end S → NonePass is_line_end (h.S ++ 32 ∷ S)
blank_none S t h n = none_join h.S (32 ∷ S) h.plain (refl, n)

-- the end of a line: a graph name or none, and the dot
record IsLineEnd (g : Option Term) : Type 0 where
  S : List ℕ
  scalars : all_scalars S ≡ true
  utf8 : line_end g ≡ encode_utf8_all S
  plain : NonePass is_line_end S
  w : Terminal × List ℕ
  follows : Follows S w
  graph : graph_of w ≡ Some (g, [])

dot_end : IsLineEnd None
dot_end = record {
  S = 46 ∷ [];
  scalars = refl;
  utf8 = sym (enc_cons 46 [] (lit< tt));
  plain = (refl, tt);
  w = (dot, []);
  follows = record { reads = next_dot; ends = λ lexical. refl };
  graph = refl;
}

graph_end : (t : Term) → is_node t ≡ true → GoodTerm t → IsLineEnd (Some t)
unfolding label_node iri_node
graph_end (Blank label) h g = let n = label_node label g in record {
  S = n.form.S ++ 32 ∷ 46 ∷ [];
  scalars = blank_scalars (46 ∷ []) (Blank label) n.form refl;
  utf8 = blank_utf8 (46 ∷ []) (46 ∷ []) (Blank label) n.form (sym (enc_cons 46 [] (lit< tt)));
  plain = blank_none (46 ∷ []) (Blank label) n.form (refl, tt);
  w = (blank_label label, 32 ∷ 46 ∷ []);
  follows = record { reads = next_blank (n.form.S ++ 32 ∷ 46 ∷ []) ∙ n.read (46 ∷ []); ends = λ lexical. refl };
  graph = rw next_dot refl;
}
graph_end (Iri text) h g = let n = iri_node text g in record {
  S = n.form.S ++ 32 ∷ 46 ∷ [];
  scalars = blank_scalars (46 ∷ []) (Iri text) n.form refl;
  utf8 = blank_utf8 (46 ∷ []) (46 ∷ []) (Iri text) n.form (sym (enc_cons 46 [] (lit< tt)));
  plain = blank_none (46 ∷ []) (Iri text) n.form (refl, tt);
  w = (iri_ref text, 32 ∷ 46 ∷ []);
  follows = record { reads = next_blank (n.form.S ++ 32 ∷ 46 ∷ []) ∙ n.read (46 ∷ []); ends = λ lexical. refl };
  graph = rw next_dot refl;
}
graph_end (Literal lex dt tag) h g = absurd cc

line_end_of : (g : Option Term) → is_graph_name g ≡ true → ((t : Term) → g ≡ Some t → GoodTerm t) → IsLineEnd g
line_end_of None h good = dot_end
line_end_of (Some t) h good = graph_end t h (good t refl)

whole_nil : (q : QuadParts) → whole q [] ≡ Some (Some q)
unfolding skip_blanks
whole_nil q = refl

statement_reads : (cs R R' r : List ℕ) (k o : Terminal) (text : List ℕ) (s t : Term) (g : Option Term) (v w : Terminal × List ℕ)
    → next cs ≡ Some (k, R) → node_of k ≡ Some s → next R ≡ Some (iri_ref text, R') → next R' ≡ Some (o, r) → next r ≡ Some v → object_of o v ≡ Some (t, w) → graph_of w ≡ Some (g, [])
    → statement_at cs ≡ Some (Some (record { s = s; p = Iri text; o = t; g = g }))
unfolding statement_at
statement_reads cs R R' r k o text s t g v w a b c d e f h =
    rw a (rw b (rw c (rw d (rw e (rw f (rw h (whole_nil (record { s = s; p = Iri text; o = t; g = g }))))))))

-- where a terminal begins, no comment does
no_end_at : (cs : List ℕ) (x : Terminal × List ℕ) → terminal_at cs ≡ Some x → is_end cs ≡ false
unfolding terminal_at
no_end_at [] x e = absurd cc
no_end_at (c ∷ cs) x e =
    elim (which (eqb c 35)) [
      | inl h ↦ absurd (none_some x (subst (λ (y : ℕ). terminal_at (y ∷ cs) ≡ Some x) (eqb-true c 35 h) e))
      | inr h ↦ h
    ]

line_starts : (cs : List ℕ) (x : Terminal × List ℕ) → next cs ≡ Some x → line_at cs ≡ statement_at cs
unfolding line_at
line_starts cs x e = rw (no_end_at (skip_blanks cs) x e) refl

-- a byte that ends a line would be a character that does
one_line_of : (line cs : List ℕ) → encode_utf8_all cs ≡ line → NonePass is_line_end cs → OneLine line
one_line_of line cs e n = λ i l. (
  λ k. false_true (sym (NoCharPasses-byte is_line_end line i (cs, e, n) l (omega (arith, k))) ∙ ap is_line_end k),
  λ k. false_true (sym (NoCharPasses-byte is_line_end line i (cs, e, n) l (omega (arith, k))) ∙ ap is_line_end k),
)

line_statement : (s : Term) (text : List ℕ) (o : Term) (g : Option Term) → IsNode s → GoodIri text → IsWritten o → IsLineEnd g
    → HasStatement (quad_line (record { s = s; p = Iri text; o = o; g = g })) (Some (record { s = s; p = Iri text; o = o; g = g }))
unfolding iri_node
line_statement s text o g a good c d =
    let q : QuadParts = record { s = s; p = Iri text; o = o; g = g } in
    let b = iri_node text good in
    let S2 : List ℕ = c.form.S ++ 32 ∷ d.S in
    let S1 : List ℕ = b.form.S ++ 32 ∷ S2 in
    let S0 : List ℕ = a.form.S ++ 32 ∷ S1 in
    let bytes2 : List ℕ = serialization o ++ 32 ∷ line_end g in
    let bytes1 : List ℕ = serialization (Iri text) ++ 32 ∷ bytes2 in
    let e : encode_utf8_all S0 ≡ quad_line q = sym (blank_utf8 S1 bytes1 s a.form (blank_utf8 S2 bytes2 (Iri text) b.form (blank_utf8 d.S (line_end g) o c.form d.utf8))) in
    let sc : all_scalars S0 ≡ true = blank_scalars S1 s a.form (blank_scalars S2 (Iri text) b.form (blank_scalars d.S o c.form d.scalars)) in
    let n = blank_none S1 s a.form (blank_none S2 (Iri text) b.form (blank_none d.S o c.form d.plain)) in
    let x = c.read d.S d.w d.follows in
    let statement = statement_reads S0 (32 ∷ S1) (32 ∷ S2) x.r a.k x.k text s o g x.v d.w (a.read S1) a.node (next_blank S1 ∙ b.read S2) (next_blank S2 ∙ x.first) x.second x.object d.graph in
    let read : line_at (chars (quad_line q)) ≡ Some (Some q) =
    ap (λ (y : List ℕ). line_at (chars y)) (sym e) ∙ ap line_at (chars-encodes S0 sc) ∙ line_starts S0 (a.k, 32 ∷ S1) (a.read S1) ∙ statement in
    let r = line_sound (chars (quad_line q)) (Some q) read in
    record {
      utf8 = (S0, (sc, e));
      one_line = one_line_of (quad_line q) S0 e n;
      terminals = r.terminals;
      splits = r.splits;
      derives = r.derives;
    }

-- a term that occurs in the quad of some line
pub good_of : (t : Term) → IsNQuadsTerm t → GoodTerm t
good_of t h = term_good h.0 h.1 t h.2 h.3

node_statement : (s p o : Term) (g : Option Term) → IsNode s → is_iri p ≡ true → GoodTerm p → IsWritten o → IsLineEnd g
    → HasStatement (quad_line (record { s = s; p = p; o = o; g = g })) (Some (record { s = s; p = p; o = o; g = g }))
node_statement s (Iri text) o g a i good c d = line_statement s text o g a good c d
node_statement s (Blank label) o g a i good c d = absurd cc
node_statement s (Literal lex dt tag) o g a i good c d = absurd cc

pub quads_round_trip : QuadsRoundTrip
quads_round_trip q h =
    node_statement q.s q.p q.o q.g (good_node q.s h.is_subject (good_of q.s h.subject)) h.is_predicate (good_of q.p h.predicate) (written q.o (good_of q.o h.object))
    (line_end_of q.g h.is_graph (λ t e. good_of t (h.graph t e)))

subject_node : {ks : List Terminal} {t : Term} → Subject ks t → is_node t ≡ true
subject_node iri_subject = refl
subject_node blank_subject = refl

predicate_iri : {ks : List Terminal} {t : Term} → Predicate ks t → is_iri t ≡ true
predicate_iri iri_predicate = refl

graph_label : {ks : List Terminal} {g : Option Term} → GraphLabel ks g → is_graph_name g ≡ true
graph_label no_graph = refl
graph_label iri_graph = refl
graph_label blank_graph = refl

pub lines_round_trip : LinesRoundTrip
lines_round_trip line q h = quads_round_trip q (record {
  subject = (line, q, h, inl refl);
  predicate = (line, q, h, inr (inl refl));
  object = (line, q, h, inr (inr (inl refl)));
  graph = λ t e. (line, q, h, inr (inr (inr e)));
  is_subject = subject_node h.derives.subject;
  is_predicate = predicate_iri h.derives.predicate;
  is_graph = graph_label h.derives.graph;
})

a_iri : GoodIri (97 ∷ 58 ∷ [])
a_iri = record { chars = 97 ∷ 58 ∷ []; scalars = refl; utf8 = sym (enc_cons 97 (58 ∷ []) (lit< tt) ∙ ap (λ (y : List ℕ). 97 ∷ y) (enc_cons 58 [] (lit< tt))); right = refl; scheme = refl }

pub good_round_trip : (t : Term) → GoodTerm t → HasStatement (object_line t) (Some (with_object t))
good_round_trip t g = line_statement (Iri (97 ∷ 58 ∷ [])) (97 ∷ 58 ∷ []) t None (iri_node (97 ∷ 58 ∷ []) a_iri) a_iri (written t g) dot_end

pub terms_round_trip : TermsRoundTrip
terms_round_trip line q t s o = good_round_trip t (term_good line q t s o)
