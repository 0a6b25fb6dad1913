-- A terminal is read exactly where the text has one, and it is the longest.
use Rattle.std.proofs.Common.{◌≡◌, ℕ, ◌≤◌, true, eqb, List, [], ◌∷◌, ◌++◌, length, map, drop, Option, Some, None, refl, sym, ap, subst, ◌∙◌, append_assoc, length-append, arith, inl, inr}
use Rattle.std.specs.Str.{encode_utf8_all}
use Rattle.std.specs.Char.{is_ascii_alphabetic, to_ascii_lowercase}
use Rattle.std.proofs.lemmas.Bool.{eqb-true}
use Rattle.std.proofs.lemmas.List.{append_cancel_right, drop_at}
use Rattle.std.proofs.lemmas.Option.{some_pair_parts, same_Some}
use Rattle.rdf_core.specs.Characters.{is_label_start}
use Rattle.rdf_core.specs.declared.lexical.escapes.Inside.TheVariants.{Iri, Quoted}
use Rattle.rdf_core.specs.Characters.{begins}
use Rattle.rdf_core.specs.Lexical.{is_tag, is_tag_tail, has_scheme}
use Rattle.nquads_core.specs.Terminal.{Terminal, iri_ref, blank_label, quoted, lang_tag, carets, dot, IsTerminal, IsIriRef, IsQuoted, IsLongest, is_label, is_label_tail}
use Rattle.nquads_core.specs.LineParser.{◌>>=◌, if_scheme, iri_at, string_at, label_tail_at, label_at, tag_tail_at, tag_at, after_char, as_terminal, sign, terminal_at}
use Rattle.rdf_core.proofs.EscapeSteps.{cond_is}
use Rattle.nquads_core.proofs.Runs.{label_parts, primary_parts}
use Rattle.rdf_core.proofs.EscapeSteps.{which}
use Rattle.rdf_core.proofs.EscapeLaws.{and_is, and_parts, none_some}
use Rattle.rdf_core.specs.LexicalReading.{parts_at, with_bytes}
use Rattle.rdf_core.proofs.EnclosedLaws.{parts_take, with_bytes_some}
use Rattle.nquads_core.proofs.TokenSteps.{iri_body_again, string_body_again}
use Rattle.nquads_core.proofs.RunLaws.{label_tail_right, label_tail_longest, primary_right, primary_longest, begins_more}

pub bind_some : {A B : Type 0} (o : Option A) (f : A → Option B) (y : B) → (o >>= f) ≡ Some y → (x : A) × (o ≡ Some x) × (f x ≡ Some y)
bind_some None f y e = absurd (none_some y e)
bind_some (Some x) f y e = (x, refl, e)

as_some : (kind : List ℕ → Terminal) (read : Option (List ℕ × List ℕ)) (k : Terminal) (rest : List ℕ) → as_terminal kind read ≡ Some (k, rest) → (v : List ℕ) × (read ≡ Some (v, rest)) × (k ≡ kind v)
as_some kind None k rest e = absurd (none_some (k, rest) e)
as_some kind (Some x) k rest e =
    let p = some_pair_parts (kind x.0) k x.1 rest e in
    (x.0, ap (λ (y : List ℕ). Some (x.0, y)) p.1, sym p.0)

sign_some : (s : Terminal) (read : Option (List ℕ)) (k : Terminal) (rest : List ℕ) → sign s read ≡ Some (k, rest) → (read ≡ Some rest) × (k ≡ s)
sign_some s None k rest e = absurd (none_some (k, rest) e)
sign_some s (Some x) k rest e = let p = some_pair_parts s k x rest e in (ap (λ (y : List ℕ). Some y) p.1, sym p.0)

after_some : (c : ℕ) (cs rest : List ℕ) → after_char c cs ≡ Some rest → cs ≡ c ∷ rest
after_some c [] rest e = absurd (none_some rest e)
after_some c (d ∷ cs) rest e =
    let g = cond_is {A = List ℕ} (eqb d c) (Some cs) rest e in
    rw (eqb-true d c g.0, same_Some cs rest g.1) refl

-- ---- the text has what is read

pub record Took (cs : List ℕ) (k : Terminal) (rest : List ℕ) : Type 0 where
  pub word : List ℕ
  pub parts : cs ≡ word ++ rest
  pub terminal : IsTerminal word k

close_up : (first : ℕ) (body : List ℕ) (close : ℕ) (cs rest : List ℕ) → cs ≡ body ++ close ∷ rest → first ∷ cs ≡ (first ∷ (body ++ close ∷ [])) ++ rest
close_up first body close cs rest e = ap (λ (y : List ℕ). first ∷ y) (e ∙ sym (append_assoc body (close ∷ []) rest))

scheme_some : (x : List ℕ × List ℕ) (v rest : List ℕ) → if_scheme x ≡ Some (v, rest) → (has_scheme v ≡ true) × (x ≡ (v, rest))
scheme_some x v rest e =
    let g = cond_is {A = List ℕ × List ℕ} (has_scheme x.0) (Some x) (v, rest) e in
    let same = same_Some x (v, rest) g.1 in
    (subst (λ (y : List ℕ × List ℕ). has_scheme y.0 ≡ true) same g.0, same)

iri_took : (cs : List ℕ) (v rest : List ℕ) → iri_at cs ≡ Some (v, rest) → Took (60 ∷ cs) (iri_ref v) rest
unfolding iri_at
iri_took cs v rest e =
    let b = bind_some (with_bytes [] (parts_at Iri (Some 62) 0 cs)) if_scheme (v, rest) e in
    let s = scheme_some b.0 v rest b.2 in
    let w = with_bytes_some (parts_at Iri (Some 62) 0 cs) v rest (b.1 ∙ ap (λ (y : List ℕ × List ℕ). Some y) s.1) in
    let t = parts_take Iri (Some 62) 0 cs w.0 rest w.1 in
    record {
      word = 60 ∷ (t.body ++ 62 ∷ []);
      parts = close_up 60 t.body 62 cs rest t.parts;
      terminal = record { body = t.body; chars = w.0; parts = refl; writes = t.writes; utf8 = w.2; scheme = s.0 };
    }

string_took : (cs : List ℕ) (v rest : List ℕ) → string_at cs ≡ Some (v, rest) → Took (34 ∷ cs) (quoted v) rest
unfolding string_at
string_took cs v rest e =
    let w = with_bytes_some (parts_at Quoted (Some 34) 0 cs) v rest e in
    let t = parts_take Quoted (Some 34) 0 cs w.0 rest w.1 in
    record {
      word = 34 ∷ (t.body ++ 34 ∷ []);
      parts = close_up 34 t.body 34 cs rest t.parts;
      terminal = record { body = t.body; chars = w.0; parts = refl; writes = t.writes; utf8 = w.2 };
    }

label_took : (cs : List ℕ) (v rest : List ℕ) → label_at cs ≡ Some (v, rest) → Took (95 ∷ 58 ∷ cs) (blank_label v) rest
unfolding label_at
label_took [] v rest e = absurd (none_some (v, rest) e)
label_took (c ∷ cs) v rest e =
    let t = label_tail_at cs in
    let g = cond_is {A = List ℕ × List ℕ} (is_label_start c) (Some (encode_utf8_all (c ∷ t.0), t.1)) (v, rest) e in
    let p = some_pair_parts (encode_utf8_all (c ∷ t.0)) v t.1 rest g.1 in
    record {
      word = 95 ∷ 58 ∷ c ∷ t.0;
      parts = ap (λ (y : List ℕ). 95 ∷ 58 ∷ c ∷ y) (sym (label_parts cs) ∙ ap (λ (y : List ℕ). t.0 ++ y) p.1);
      terminal = record { label = c ∷ t.0; parts = refl; right = and_is (is_label_start c) (is_label_tail t.0) g.0 (label_tail_right cs); utf8 = sym p.0 };
    }

primary_begins : (cs : List ℕ) → begins is_ascii_alphabetic cs ≡ true → begins is_ascii_alphabetic (tag_tail_at cs).0 ≡ true
unfolding tag_tail_at
primary_begins [] h = h
primary_begins (c ∷ cs) h = rw h h

tag_took : (cs : List ℕ) (v rest : List ℕ) → tag_at cs ≡ Some (v, rest) → Took (64 ∷ cs) (lang_tag v) rest
unfolding tag_at
tag_took cs v rest e =
    let t = tag_tail_at cs in
    let g = cond_is {A = List ℕ × List ℕ} (begins is_ascii_alphabetic cs) (Some (map to_ascii_lowercase t.0, t.1)) (v, rest) e in
    let p = some_pair_parts (map to_ascii_lowercase t.0) v t.1 rest g.1 in
    record {
      word = 64 ∷ t.0;
      parts = ap (λ (y : List ℕ). 64 ∷ y) (sym (primary_parts cs) ∙ ap (λ (y : List ℕ). t.0 ++ y) p.1);
      terminal = record { tag = t.0; parts = refl; right = and_is (begins is_ascii_alphabetic t.0) (is_tag_tail t.0) (primary_begins cs g.0) (primary_right cs); lower = sym p.0 };
    }

Took-kind : (cs : List ℕ) (k k' : Terminal) (rest : List ℕ) → k ≡ k' → Took cs k' rest → Took cs k rest
Took-kind cs k k' rest e t = subst (λ (y : Terminal). Took cs y rest) (sym e) t

Took-first : (c d : ℕ) (cs : List ℕ) (k : Terminal) (rest : List ℕ) → eqb c d ≡ true → Took (d ∷ cs) k rest → Took (c ∷ cs) k rest
Took-first c d cs k rest e t = rw (eqb-true c d e) t

pub terminal_takes : (cs : List ℕ) (k : Terminal) (rest : List ℕ) → terminal_at cs ≡ Some (k, rest) → Took cs k rest
unfolding terminal_at
terminal_takes [] k rest e = absurd (none_some (k, rest) e)
terminal_takes (c ∷ cs) k rest e =
    elim (which (eqb c 60)) [
      | inl h ↦ let a = as_some iri_ref (iri_at cs) k rest (rw h at e) in Took-first c 60 cs k rest h (Took-kind _ k _ rest a.2 (iri_took cs a.0 rest a.1))
      | inr n1 ↦ elim (which (eqb c 34)) [
        | inl h ↦ let a = as_some quoted (string_at cs) k rest (rw (n1, h) at e) in Took-first c 34 cs k rest h (Took-kind _ k _ rest a.2 (string_took cs a.0 rest a.1))
        | inr n2 ↦ elim (which (eqb c 95)) [
          | inl h ↦
              let b = bind_some (after_char 58 cs) (λ label. as_terminal blank_label (label_at label)) (k, rest) (rw (n1, n2, h) at e) in
              let a = as_some blank_label (label_at b.0) k rest b.2 in
              Took-first c 95 cs k rest h (rw (after_some 58 cs b.0 b.1) (Took-kind _ k _ rest a.2 (label_took b.0 a.0 rest a.1)))
          | inr n3 ↦ elim (which (eqb c 64)) [
            | inl h ↦ let a = as_some lang_tag (tag_at cs) k rest (rw (n1, n2, n3, h) at e) in Took-first c 64 cs k rest h (Took-kind _ k _ rest a.2 (tag_took cs a.0 rest a.1))
            | inr n4 ↦ elim (which (eqb c 94)) [
              | inl h ↦
                  let a = sign_some carets (after_char 94 cs) k rest (rw (n1, n2, n3, n4, h) at e) in
                  Took-first c 94 cs k rest h (Took-kind _ k _ rest a.1 (record { word = 94 ∷ 94 ∷ []; parts = ap (λ (y : List ℕ). 94 ∷ y) (after_some 94 cs rest a.0); terminal = refl }))
              | inr n5 ↦ elim (which (eqb c 46)) [
                | inl h ↦
                    let p = some_pair_parts dot k cs rest (rw (n1, n2, n3, n4, n5, h) at e) in
                    Took-first c 46 cs k rest h (Took-kind _ k _ rest (sym p.0) (record { word = 46 ∷ []; parts = ap (λ (y : List ℕ). 46 ∷ y) p.1; terminal = refl }))
                | inr n6 ↦ absurd (none_some (k, rest) (rw (n1, n2, n3, n4, n5, n6) at e))
              ]
            ]
          ]
        ]
      ]
    ]

-- ---- what the text has is read, or more than that

-- From a text that begins with the terminal k, some terminal is read that is no shorter; where it is no longer, it is k.
pub record Reaches (cs : List ℕ) (k : Terminal) (remaining : List ℕ) : Type 0 where
  pub kind : Terminal
  pub left : List ℕ
  pub is : terminal_at cs ≡ Some (kind, left)
  pub short : length left ≤ length remaining
  pub same : left ≡ remaining → kind ≡ k

-- an IRI and a string end where they close, whatever follows
pub iri_scanned : (word bytes remaining : List ℕ) → IsIriRef word bytes → terminal_at (word ++ remaining) ≡ Some (iri_ref bytes, remaining)
unfolding terminal_at iri_at
iri_scanned word bytes remaining t =
    let whole : word ++ remaining ≡ 60 ∷ (t.body ++ 62 ∷ remaining) = ap (λ (y : List ℕ). y ++ remaining) t.parts ∙ ap (λ (y : List ℕ). 60 ∷ y) (append_assoc t.body (62 ∷ []) remaining) in
    let read = iri_body_again t.chars t.body remaining t.writes in
    rw (whole, read, ← t.utf8, t.scheme) refl

pub string_scanned : (word bytes remaining : List ℕ) → IsQuoted word bytes → terminal_at (word ++ remaining) ≡ Some (quoted bytes, remaining)
unfolding terminal_at string_at
string_scanned word bytes remaining t =
    let whole : word ++ remaining ≡ 34 ∷ (t.body ++ 34 ∷ remaining) = ap (λ (y : List ℕ). y ++ remaining) t.parts ∙ ap (λ (y : List ℕ). 34 ∷ y) (append_assoc t.body (34 ∷ []) remaining) in
    let read = string_body_again t.chars t.body remaining t.writes in
    rw (whole, read, ← t.utf8) refl

reach_whole : (cs remaining : List ℕ) (k : Terminal) → terminal_at cs ≡ Some (k, remaining) → Reaches cs k remaining
reach_whole cs remaining k e = record { kind = k; left = remaining; is = e; short = omega arith; same = λ _. refl }

label_reach : (label remaining bytes : List ℕ) → is_label label ≡ true → bytes ≡ encode_utf8_all label → Reaches (95 ∷ 58 ∷ label ++ remaining) (blank_label bytes) remaining
unfolding terminal_at label_at
label_reach [] remaining bytes h u = absurd cc
label_reach (c ∷ tail) remaining bytes h u =
    let p = and_parts (is_label_start c) (is_label_tail tail) h in
    let t = label_tail_at (tail ++ remaining) in
    let parts = label_parts (tail ++ remaining) in
    let long = label_tail_longest tail remaining p.1 in
    record {
      kind = blank_label (encode_utf8_all (c ∷ t.0));
      left = t.1;
      is = rw p.0 refl;
      short = omega (arith, ap length parts, length-append t.0 t.1, length-append tail remaining, long);
      same = λ e.
          let front : t.0 ≡ tail = append_cancel_right t.0 tail remaining (ap (λ (y : List ℕ). t.0 ++ y) (sym e) ∙ parts) in
          ap blank_label (ap (λ (y : List ℕ). encode_utf8_all (c ∷ y)) front ∙ sym u);
    }

tag_reach : (tag remaining bytes : List ℕ) → is_tag tag ≡ true → bytes ≡ map to_ascii_lowercase tag → Reaches (64 ∷ tag ++ remaining) (lang_tag bytes) remaining
unfolding terminal_at tag_at
tag_reach tag remaining bytes h u =
    let p = and_parts (begins is_ascii_alphabetic tag) (is_tag_tail tag) h in
    let t = tag_tail_at (tag ++ remaining) in
    let parts = primary_parts (tag ++ remaining) in
    let long = primary_longest tag remaining p.1 in
    let starts = begins_more is_ascii_alphabetic tag remaining p.0 in
    record {
      kind = lang_tag (map to_ascii_lowercase t.0);
      left = t.1;
      is = rw starts refl;
      short = omega (arith, ap length parts, length-append t.0 t.1, length-append tag remaining, long);
      same = λ e.
          let front : t.0 ≡ tag = append_cancel_right t.0 tag remaining (ap (λ (y : List ℕ). t.0 ++ y) (sym e) ∙ parts) in
          ap lang_tag (ap (λ (y : List ℕ). map to_ascii_lowercase y) front ∙ sym u);
    }

pub at_carets : (remaining : List ℕ) → terminal_at (94 ∷ 94 ∷ remaining) ≡ Some (carets, remaining)
unfolding terminal_at
at_carets remaining = refl

pub at_dot : (remaining : List ℕ) → terminal_at (46 ∷ remaining) ≡ Some (dot, remaining)
unfolding terminal_at
at_dot remaining = refl

pub reaches : (word remaining : List ℕ) (k : Terminal) → IsTerminal word k → Reaches (word ++ remaining) k remaining
reaches word remaining (iri_ref bytes) t = reach_whole (word ++ remaining) remaining (iri_ref bytes) (iri_scanned word bytes remaining t)
reaches word remaining (quoted bytes) t = reach_whole (word ++ remaining) remaining (quoted bytes) (string_scanned word bytes remaining t)
reaches word remaining (blank_label bytes) t =
    subst (λ (y : List ℕ). Reaches (y ++ remaining) (blank_label bytes) remaining) (sym t.parts) (label_reach t.label remaining bytes t.right t.utf8)
reaches word remaining (lang_tag bytes) t =
    subst (λ (y : List ℕ). Reaches (y ++ remaining) (lang_tag bytes) remaining) (sym t.parts) (tag_reach t.tag remaining bytes t.right t.lower)
reaches word remaining carets t = reach_whole (word ++ remaining) remaining carets (ap (λ (y : List ℕ). terminal_at (y ++ remaining)) t ∙ at_carets remaining)
reaches word remaining dot t = reach_whole (word ++ remaining) remaining dot (ap (λ (y : List ℕ). terminal_at (y ++ remaining)) t ∙ at_dot remaining)

-- ---- the longest

-- what is read is the longest
pub took_longest : (word rest : List ℕ) (k : Terminal) → terminal_at (word ++ rest) ≡ Some (k, rest) → IsLongest word rest
took_longest word rest k e = λ front remaining other whole t.
    let r = reaches front remaining other t in
    let p = some_pair_parts r.kind k r.left rest (sym r.is ∙ ap terminal_at whole ∙ e) in
    omega (arith, ap length whole, length-append front remaining, length-append word rest, r.short, ap length p.1)

same_length : (a b c d : List ℕ) → a ++ b ≡ c ++ d → length b ≡ length d → b ≡ d
same_length a b c d e l =
    let n : length a ≡ length c = omega (arith, ap length e, length-append a b, length-append c d) in
    sym (drop_at a b (length a) refl) ∙ ap (λ (y : List ℕ). drop (length a) y) e ∙ drop_at c d (length a) (sym n)

pair_of : (k k' : Terminal) (a b : List ℕ) → k ≡ k' → a ≡ b → ◌≡◌ {A = Terminal × List ℕ} (k, a) (k', b)
pair_of k k' a b e f = rw (e, f) refl

-- the longest is what is read
pub terminal_again : (word rest : List ℕ) (k : Terminal) → IsTerminal word k → IsLongest word rest → terminal_at (word ++ rest) ≡ Some (k, rest)
terminal_again word rest k t longest =
    let r = reaches word rest k t in
    let took = terminal_takes (word ++ rest) r.kind r.left r.is in
    let le = longest took.word r.left r.kind (sym took.parts) took.terminal in
    let l : length r.left ≡ length rest = omega (arith, ap length took.parts, length-append word rest, length-append took.word r.left, le, r.short) in
    let left = same_length took.word r.left word rest (sym took.parts) l in
    r.is ∙ ap (λ (x : Terminal × List ℕ). Some x) (pair_of r.kind k r.left rest (r.same left) left)
