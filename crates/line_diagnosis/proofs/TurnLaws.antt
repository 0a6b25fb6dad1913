-- The first character of the rest of a line, from each turn on.
use Rattle.std.proofs.Common.{◌≡◌, ℕ, true, false, eqb, List, ◌∷◌, map, Option, Some, None, refl, sym, ap, subst, ◌∙◌, inl, inr, ◌⊎◌}
use Rattle.std.specs.Prelude.{◌≢◌}
use Rattle.std.specs.Char.{is_ascii_alphabetic, to_ascii_lowercase}
use Rattle.std.proofs.lemmas.Bool.{eqb-true, ne_eqb}
use Rattle.std.proofs.lemmas.Option.{some_pair_parts, same_Some}
use Rattle.rdf_core.specs.Characters.{begins}
use Rattle.rdf_core.proofs.EscapeSteps.{cond_is, which}
use Rattle.rdf_core.proofs.EscapeLaws.{none_some}
use Rattle.nquads_core.specs.Terminal.{Terminal, iri_ref, blank_label, quoted, lang_tag, carets, dot, is_blank}
use Rattle.nquads_core.specs.LineParser.{◌>>=◌, after_char, as_terminal, is_end, iri_at, label_at, sign, skip_blanks, string_at, tag_at, tag_tail_at, terminal_at}
use Rattle.nquads_core.proofs.TerminalLaws.{bind_some}
use Rattle.line_diagnosis.specs.declared.reason.Next.{Next}
use Rattle.line_diagnosis.specs.declared.reason.Next.TheVariants.{Datatype, Graph}
use Rattle.line_diagnosis.specs.declared.state.Part.{Part}
use Rattle.line_diagnosis.specs.declared.state.State.TheVariants as state
use Rattle.line_diagnosis.specs.Turn.{Turn, part, suffix, after_iri, after_blank, after_string, after_dot, after_suffix, follows, is_last, Completes, ended, goes}
use Rattle.line_diagnosis.specs.Rest.{Accepts, IsStep, IsStuck, RestAfter, RestOfLabel, after}

-- ---- blanks

skip_blank : (c : ℕ) (cs : List ℕ) → is_blank c ≡ true → skip_blanks (c ∷ cs) ≡ skip_blanks cs
unfolding skip_blanks
skip_blank c cs h = rw h refl

skip_none : (c : ℕ) (cs : List ℕ) → is_blank c ≡ false → skip_blanks (c ∷ cs) ≡ c ∷ cs
unfolding skip_blanks
skip_none c cs h = rw h refl

same_skip : (t : Turn) (a b : List ℕ) → skip_blanks a ≡ skip_blanks b → Completes t a → Completes t b
same_skip t a b e (ended h k) = ended h (subst (λ (y : List ℕ). is_end y ≡ true) e k)
same_skip t a b e (goes k rest u n f m) = goes k rest u (ap terminal_at (sym e) ∙ n) f m

pub blank_forth : (t : Turn) (c : ℕ) (cs : List ℕ) → is_blank c ≡ true → Completes t (c ∷ cs) → Completes t cs
blank_forth t c cs h m = same_skip t (c ∷ cs) cs (skip_blank c cs h) m

pub blank_back : (t : Turn) (c : ℕ) (cs : List ℕ) → is_blank c ≡ true → Completes t cs → Completes t (c ∷ cs)
blank_back t c cs h m = same_skip t cs (c ∷ cs) (sym (skip_blank c cs h)) m

-- ---- what follows a terminal

-- a terminal of this kind leads to this turn
next_turn : (t : Turn) (k kind : Terminal) (o : Option Turn) (u v : Turn) → k ≡ kind → follows t kind ≡ o → o ≡ Some u → follows t k ≡ Some v → u ≡ v
next_turn t k kind o u v e f a h = same_Some u v (sym a ∙ sym f ∙ ap (follows t) (sym e) ∙ h)

follows_none : (t : Turn) (k kind : Terminal) → k ≡ kind → follows t kind ≡ None → follows t k ≡ None
follows_none t k kind e f = ap (follows t) e ∙ f

follows_iri : (t : Turn) (v : List ℕ) → follows t (iri_ref v) ≡ after_iri t
unfolding follows
follows_iri t v = refl

follows_blank : (t : Turn) (v : List ℕ) → follows t (blank_label v) ≡ after_blank t
unfolding follows
follows_blank t v = refl

follows_string : (t : Turn) (v : List ℕ) → follows t (quoted v) ≡ after_string t
unfolding follows
follows_string t v = refl

follows_tag : (t : Turn) (v : List ℕ) → follows t (lang_tag v) ≡ after_suffix Graph t
unfolding follows
follows_tag t v = refl

follows_carets : (t : Turn) → follows t carets ≡ after_suffix Datatype t
unfolding follows
follows_carets t = refl

follows_dot : (t : Turn) → follows t dot ≡ after_dot t
unfolding follows
follows_dot t = refl

-- ---- a terminal or a comment at the front

-- a terminal at the front of the text, and the rest of the line after it
pub record Reads (t : Turn) (cs : List ℕ) : Type 0 where
  pub k : Terminal
  pub rest : List ℕ
  pub turn : Turn
  pub reads : terminal_at cs ≡ Some (k, rest)
  pub follows : follows t k ≡ Some turn
  pub more : Completes turn rest

pub first : (t : Turn) (c : ℕ) (cs : List ℕ) → is_blank c ≡ false → Completes t (c ∷ cs) → ((is_last t ≡ true) × (c ≡ 35)) ⊎ Reads t (c ∷ cs)
first t c cs h (ended l e) = inl (l, eqb-true c 35 (subst (λ (y : List ℕ). is_end y ≡ true) (skip_none c cs h) e))
first t c cs h (goes k rest u n f m) = inr (record { k = k; rest = rest; turn = u; reads = ap terminal_at (sym (skip_none c cs h)) ∙ n; follows = f; more = m })

pub first_again : (t : Turn) (c : ℕ) (cs : List ℕ) → is_blank c ≡ false → Reads t (c ∷ cs) → Completes t (c ∷ cs)
first_again t c cs h r = goes r.k r.rest r.turn (ap terminal_at (skip_none c cs h) ∙ r.reads) r.follows r.more

pub comment_again : (t : Turn) (cs : List ℕ) → is_last t ≡ true → Completes t (35 ∷ cs)
comment_again t cs l = ended l (subst (λ (y : List ℕ). is_end y ≡ true) (sym (skip_none 35 cs refl)) refl)

-- the first character is not the one of a comment
read_first : (t : Turn) (c : ℕ) (cs : List ℕ) → is_blank c ≡ false → (c ≡ 35 → ⊥) → Completes t (c ∷ cs) → Reads t (c ∷ cs)
read_first t c cs h n m = elim (first t c cs h m) [
  | inl e ↦ absurd (n e.1)
  | inr r ↦ r
]

pub stuck : (t : Turn) (c : ℕ) → is_blank c ≡ false → (c ≡ 35 → is_last t ≡ false)
    → ((cs : List ℕ) (k : Terminal) (rest : List ℕ) → terminal_at (c ∷ cs) ≡ Some (k, rest) → follows t k ≡ None) → IsStuck (Completes t) c
stuck t c h l n cs m = elim (first t c cs h m) [
  | inl e ↦ let no : ⊥ = cc (e.0, l e.1) in no
  | inr r ↦ none_some r.turn (sym (n cs r.k r.rest r.reads) ∙ r.follows)
]

-- ---- terminals by their first character

pub as_some : (kind : List ℕ → Terminal) (read : Option (List ℕ × List ℕ)) (k : Terminal) (rest : List ℕ) → as_terminal kind read ≡ Some (k, rest) → (v : List ℕ) × (read ≡ Some (v, rest)) × (k ≡ kind v)
as_some kind None k rest e = absurd (none_some (k, rest) e)
as_some kind (Some x) k rest e =
    let p = some_pair_parts (kind x.0) k x.1 rest e in
    (x.0, ap (λ (y : List ℕ). Some (x.0, y)) p.1, sym p.0)

sign_some : (s : Terminal) (read : Option (List ℕ)) (k : Terminal) (rest : List ℕ) → sign s read ≡ Some (k, rest) → (read ≡ Some rest) × (k ≡ s)
sign_some s None k rest e = absurd (none_some (k, rest) e)
sign_some s (Some x) k rest e = let p = some_pair_parts s k x rest e in (ap (λ (y : List ℕ). Some y) p.1, sym p.0)

at_iri : (cs : List ℕ) → terminal_at (60 ∷ cs) ≡ as_terminal iri_ref (iri_at cs)
unfolding terminal_at
at_iri cs = refl

at_string : (cs : List ℕ) → terminal_at (34 ∷ cs) ≡ as_terminal quoted (string_at cs)
unfolding terminal_at
at_string cs = refl

at_blank : (cs : List ℕ) → terminal_at (95 ∷ cs) ≡ (after_char 58 cs >>= λ label. as_terminal blank_label (label_at label))
unfolding terminal_at
at_blank cs = refl

at_tag : (cs : List ℕ) → terminal_at (64 ∷ cs) ≡ as_terminal lang_tag (tag_at cs)
unfolding terminal_at
at_tag cs = refl

at_carets : (cs : List ℕ) → terminal_at (94 ∷ cs) ≡ sign carets (after_char 94 cs)
unfolding terminal_at
at_carets cs = refl

at_dot : (cs : List ℕ) → terminal_at (46 ∷ cs) ≡ Some (dot, cs)
unfolding terminal_at
at_dot cs = refl

at_other : (c : ℕ) (cs : List ℕ) → c ≢ 60 → c ≢ 34 → c ≢ 95 → c ≢ 64 → c ≢ 94 → c ≢ 46 → terminal_at (c ∷ cs) ≡ None
unfolding terminal_at
at_other c cs a b d e f g = rw (ne_eqb c 60 a, ne_eqb c 34 b, ne_eqb c 95 d, ne_eqb c 64 e, ne_eqb c 94 f, ne_eqb c 46 g) refl

at_rest : (c : ℕ) (cs : List ℕ) → eqb c 60 ≡ false → eqb c 34 ≡ false → eqb c 95 ≡ false → eqb c 64 ≡ false → eqb c 94 ≡ false → eqb c 46 ≡ false → terminal_at (c ∷ cs) ≡ None
unfolding terminal_at
at_rest c cs a b d e f g = rw (a, b, d, e, f, g) refl

-- ---- the rest of a line that begins with an IRI, a string, a label, a dot

-- an IRI at the front, and the rest of the line
pub record IriFirst (u : Turn) (cs : List ℕ) : Type 0 where
  pub bytes : List ℕ
  pub rest : List ℕ
  pub reads : iri_at cs ≡ Some (bytes, rest)
  pub more : Completes u rest

iri_read : (t u : Turn) (cs : List ℕ) → after_iri t ≡ Some u → Reads t (60 ∷ cs) → IriFirst u cs
iri_read t u cs a r =
    let s = as_some iri_ref (iri_at cs) r.k r.rest (sym (at_iri cs) ∙ r.reads) in
    let same = next_turn t r.k (iri_ref s.0) (after_iri t) u r.turn s.2 (follows_iri t s.0) a r.follows in
    record { bytes = s.0; rest = r.rest; reads = s.1; more = subst (λ (x : Turn). Completes x r.rest) (sym same) r.more }

pub iri_forth : (t u : Turn) (cs : List ℕ) → after_iri t ≡ Some u → Completes t (60 ∷ cs) → IriFirst u cs
iri_forth t u cs a m = iri_read t u cs a (read_first t 60 cs refl (λ e. cc) m)

pub iri_back : (t u : Turn) (cs : List ℕ) → after_iri t ≡ Some u → IriFirst u cs → Completes t (60 ∷ cs)
iri_back t u cs a h = first_again t 60 cs refl (record { k = iri_ref h.bytes; rest = h.rest; turn = u; reads = at_iri cs ∙ ap (as_terminal iri_ref) h.reads; follows = follows_iri t h.bytes ∙ a; more = h.more })

pub iri_stuck : (t : Turn) → after_iri t ≡ None → IsStuck (Completes t) 60
iri_stuck t a = stuck t 60 refl (λ e. let no : ⊥ = cc in absurd no)
    (λ cs k rest e. let s = as_some iri_ref (iri_at cs) k rest (sym (at_iri cs) ∙ e) in follows_none t k (iri_ref s.0) s.2 (follows_iri t s.0 ∙ a))

pub record StringFirst (u : Turn) (cs : List ℕ) : Type 0 where
  pub bytes : List ℕ
  pub rest : List ℕ
  pub reads : string_at cs ≡ Some (bytes, rest)
  pub more : Completes u rest

string_read : (t u : Turn) (cs : List ℕ) → after_string t ≡ Some u → Reads t (34 ∷ cs) → StringFirst u cs
string_read t u cs a r =
    let s = as_some quoted (string_at cs) r.k r.rest (sym (at_string cs) ∙ r.reads) in
    let same = next_turn t r.k (quoted s.0) (after_string t) u r.turn s.2 (follows_string t s.0) a r.follows in
    record { bytes = s.0; rest = r.rest; reads = s.1; more = subst (λ (x : Turn). Completes x r.rest) (sym same) r.more }

pub string_forth : (t u : Turn) (cs : List ℕ) → after_string t ≡ Some u → Completes t (34 ∷ cs) → StringFirst u cs
string_forth t u cs a m = string_read t u cs a (read_first t 34 cs refl (λ e. cc) m)

pub string_back : (t u : Turn) (cs : List ℕ) → after_string t ≡ Some u → StringFirst u cs → Completes t (34 ∷ cs)
string_back t u cs a h = first_again t 34 cs refl (record { k = quoted h.bytes; rest = h.rest; turn = u; reads = at_string cs ∙ ap (as_terminal quoted) h.reads; follows = follows_string t h.bytes ∙ a; more = h.more })

pub string_stuck : (t : Turn) → after_string t ≡ None → IsStuck (Completes t) 34
string_stuck t a = stuck t 34 refl (λ e. let no : ⊥ = cc in absurd no)
    (λ cs k rest e. let s = as_some quoted (string_at cs) k rest (sym (at_string cs) ∙ e) in follows_none t k (quoted s.0) s.2 (follows_string t s.0 ∙ a))

label_read : (t : Turn) (p : Part) (cs : List ℕ) → after_blank t ≡ Some (part (after p)) → Reads t (95 ∷ cs) → RestAfter 58 (RestOfLabel p) cs
label_read t p cs a r =
    let b = bind_some (after_char 58 cs) (λ label. as_terminal blank_label (label_at label)) (r.k, r.rest) (sym (at_blank cs) ∙ r.reads) in
    let s = as_some blank_label (label_at b.0) r.k r.rest b.2 in
    let same = next_turn t r.k (blank_label s.0) (after_blank t) (part (after p)) r.turn s.2 (follows_blank t s.0) a r.follows in
    record { rest = b.0; after = b.1; is = record { label = s.0; rest = r.rest; read = s.1; more = subst (λ (x : Turn). Completes x r.rest) (sym same) r.more } }

label_forth : (t : Turn) (p : Part) (cs : List ℕ) → after_blank t ≡ Some (part (after p)) → Completes t (95 ∷ cs) → RestAfter 58 (RestOfLabel p) cs
label_forth t p cs a m = label_read t p cs a (read_first t 95 cs refl (λ e. cc) m)

label_back : (t : Turn) (p : Part) (cs : List ℕ) → after_blank t ≡ Some (part (after p)) → RestAfter 58 (RestOfLabel p) cs → Completes t (95 ∷ cs)
label_back t p cs a h =
    first_again t 95 cs refl (record { k = blank_label h.is.label; rest = h.is.rest; turn = part (after p); reads = at_blank cs ∙ rw (h.after, h.is.read) refl; follows = follows_blank t h.is.label ∙ a; more = h.is.more })

pub label_opens : (n : Next) (p : Part) → after_blank (part n) ≡ Some (part (after p)) → IsStep (Accepts (state.Between n)) 95 (state.Underscore p)
label_opens n p a = record { forth = λ cs h. label_forth (part n) p cs a h; back = λ cs h. label_back (part n) p cs a h; can_end = tt }

pub label_stuck : (n : Next) → after_blank (part n) ≡ None → IsStuck (Accepts (state.Between n)) 95
label_stuck n a = stuck (part n) 95 refl (λ e. let no : ⊥ = cc in absurd no)
    (λ cs k rest e.
    let b = bind_some (after_char 58 cs) (λ label. as_terminal blank_label (label_at label)) (k, rest) (sym (at_blank cs) ∙ e) in
    let s = as_some blank_label (label_at b.0) k rest b.2 in
    follows_none (part n) k (blank_label s.0) s.2 (follows_blank (part n) s.0 ∙ a))

dot_read : (t u : Turn) (cs : List ℕ) → after_dot t ≡ Some u → Reads t (46 ∷ cs) → Completes u cs
dot_read t u cs a r =
    let s = some_pair_parts dot r.k cs r.rest (sym (at_dot cs) ∙ r.reads) in
    let same = next_turn t r.k dot (after_dot t) u r.turn (sym s.0) (follows_dot t) a r.follows in
    subst (λ (x : Turn). Completes x cs) (sym same) (subst (λ (y : List ℕ). Completes r.turn y) (sym s.1) r.more)

pub dot_forth : (t u : Turn) (cs : List ℕ) → after_dot t ≡ Some u → Completes t (46 ∷ cs) → Completes u cs
dot_forth t u cs a m = dot_read t u cs a (read_first t 46 cs refl (λ e. cc) m)

pub dot_back : (t u : Turn) (cs : List ℕ) → after_dot t ≡ Some u → Completes u cs → Completes t (46 ∷ cs)
dot_back t u cs a m = first_again t 46 cs refl (record { k = dot; rest = cs; turn = u; reads = at_dot cs; follows = follows_dot t ∙ a; more = m })

pub dot_stuck : (t : Turn) → after_dot t ≡ None → IsStuck (Completes t) 46
dot_stuck t a = stuck t 46 refl (λ e. let no : ⊥ = cc in absurd no)
    (λ cs k rest e. let s = some_pair_parts dot k cs rest (sym (at_dot cs) ∙ e) in follows_none t k dot (sym s.0) (follows_dot t ∙ a))

-- ---- after a string

carets_read : (cs : List ℕ) → Reads suffix (94 ∷ cs) → RestAfter 94 (Completes (part Datatype)) cs
carets_read cs r =
    let s = sign_some carets (after_char 94 cs) r.k r.rest (sym (at_carets cs) ∙ r.reads) in
    let same = next_turn suffix r.k carets (Some (part Datatype)) (part Datatype) r.turn s.1 (follows_carets suffix) refl r.follows in
    record { rest = r.rest; after = s.0; is = subst (λ (x : Turn). Completes x r.rest) (sym same) r.more }

pub carets_open : IsStep (Accepts state.AfterString) 94 state.Caret
carets_open = record {
  forth = λ cs m. carets_read cs (read_first suffix 94 cs refl (λ e. cc) m);
  back = λ cs h. first_again suffix 94 cs refl (record { k = carets; rest = h.rest; turn = part Datatype; reads = at_carets cs ∙ ap (sign carets) h.after; follows = follows_carets suffix; more = h.is });
  can_end = tt;
}

tag_is : (cs : List ℕ) → begins is_ascii_alphabetic cs ≡ true → tag_at cs ≡ Some (map to_ascii_lowercase (tag_tail_at cs).0, (tag_tail_at cs).1)
unfolding tag_at
tag_is cs h = rw h refl

tag_parts : (cs v rest : List ℕ) → tag_at cs ≡ Some (v, rest) → (begins is_ascii_alphabetic cs ≡ true) × ((tag_tail_at cs).1 ≡ rest)
unfolding tag_at
tag_parts cs v rest e =
    let g = cond_is {A = List ℕ × List ℕ} (begins is_ascii_alphabetic cs) (Some (map to_ascii_lowercase (tag_tail_at cs).0, (tag_tail_at cs).1)) (v, rest) e in
    (g.0, (some_pair_parts (map to_ascii_lowercase (tag_tail_at cs).0) v (tag_tail_at cs).1 rest g.1).1)

tag_read : (cs : List ℕ) → Reads suffix (64 ∷ cs) → (begins is_ascii_alphabetic cs ≡ true) × Completes (part Graph) (tag_tail_at cs).1
tag_read cs r =
    let s = as_some lang_tag (tag_at cs) r.k r.rest (sym (at_tag cs) ∙ r.reads) in
    let p = tag_parts cs s.0 r.rest s.1 in
    let same = next_turn suffix r.k (lang_tag s.0) (Some (part Graph)) (part Graph) r.turn s.2 (follows_tag suffix s.0) refl r.follows in
    (p.0, subst (λ (y : List ℕ). Completes (part Graph) y) (sym p.1) (subst (λ (x : Turn). Completes x r.rest) (sym same) r.more))

pub tag_opens : IsStep (Accepts state.AfterString) 64 state.At
tag_opens = record {
  forth = λ cs m. tag_read cs (read_first suffix 64 cs refl (λ e. cc) m);
  back = λ cs h. first_again suffix 64 cs refl (record { k = lang_tag (map to_ascii_lowercase (tag_tail_at cs).0); rest = (tag_tail_at cs).1; turn = part Graph; reads = at_tag cs ∙ ap (as_terminal lang_tag) (tag_is cs h.0); follows = follows_tag suffix (map to_ascii_lowercase (tag_tail_at cs).0); more = h.1 });
  can_end = tt;
}

-- a terminal that begins with neither @ nor ^ may follow a string where it may follow another object
same_turn : (c : ℕ) (cs : List ℕ) (k : Terminal) (rest : List ℕ) → c ≢ 64 → c ≢ 94 → terminal_at (c ∷ cs) ≡ Some (k, rest) → follows suffix k ≡ follows (part Graph) k
unfolding follows
same_turn c cs k rest a b e = elim (which (eqb c 60)) [
  | inl h ↦ rw (as_some iri_ref (iri_at cs) k rest (sym (at_iri cs) ∙ subst (λ (x : ℕ). terminal_at (x ∷ cs) ≡ Some (k, rest)) (eqb-true c 60 h) e)).2 refl
  | inr n1 ↦ elim (which (eqb c 34)) [
    | inl h ↦ rw (as_some quoted (string_at cs) k rest (sym (at_string cs) ∙ subst (λ (x : ℕ). terminal_at (x ∷ cs) ≡ Some (k, rest)) (eqb-true c 34 h) e)).2 refl
    | inr n2 ↦ elim (which (eqb c 95)) [
      | inl h ↦
          let d = bind_some (after_char 58 cs) (λ label. as_terminal blank_label (label_at label)) (k, rest) (sym (at_blank cs) ∙ subst (λ (x : ℕ). terminal_at (x ∷ cs) ≡ Some (k, rest)) (eqb-true c 95 h) e) in
          rw (as_some blank_label (label_at d.0) k rest d.2).2 refl
      | inr n3 ↦ elim (which (eqb c 46)) [
        | inl h ↦ rw (← (some_pair_parts dot k cs rest (sym (at_dot cs) ∙ subst (λ (x : ℕ). terminal_at (x ∷ cs) ≡ Some (k, rest)) (eqb-true c 46 h) e)).0) refl
        | inr n4 ↦ absurd (none_some (k, rest) (sym (at_rest c cs n1 n2 n3 (ne_eqb c 64 a) (ne_eqb c 94 b) n4) ∙ e))
      ]
    ]
  ]
]

pub suffix_forth : (c : ℕ) (cs : List ℕ) → is_blank c ≡ false → c ≢ 64 → c ≢ 94 → Completes suffix (c ∷ cs) → Completes (part Graph) (c ∷ cs)
suffix_forth c cs h a b m = elim (first suffix c cs h m) [
  | inl e ↦ absurd cc
  | inr r ↦ first_again (part Graph) c cs h (record { k = r.k; rest = r.rest; turn = r.turn; reads = r.reads; follows = sym (same_turn c cs r.k r.rest a b r.reads) ∙ r.follows; more = r.more })
]

pub suffix_back : (c : ℕ) (cs : List ℕ) → is_blank c ≡ false → c ≢ 64 → c ≢ 94 → Completes (part Graph) (c ∷ cs) → Completes suffix (c ∷ cs)
suffix_back c cs h a b m = elim (first (part Graph) c cs h m) [
  | inl e ↦ absurd cc
  | inr r ↦ first_again suffix c cs h (record { k = r.k; rest = r.rest; turn = r.turn; reads = r.reads; follows = same_turn c cs r.k r.rest a b r.reads ∙ r.follows; more = r.more })
]

-- ---- characters that begin no terminal

pub other_stuck : (t : Turn) (c : ℕ) → is_blank c ≡ false → (c ≡ 35 → is_last t ≡ false) → c ≢ 60 → c ≢ 34 → c ≢ 95 → c ≢ 64 → c ≢ 94 → c ≢ 46 → IsStuck (Completes t) c
other_stuck t c h l a b d e f g = stuck t c h l (λ cs k rest r. absurd (none_some (k, rest) (sym (at_other c cs a b d e f g) ∙ r)))

pub tag_stuck : (n : Next) → IsStuck (Completes (part n)) 64
tag_stuck n = stuck (part n) 64 refl (λ e. let no : ⊥ = cc in absurd no)
    (λ cs k rest e. let s = as_some lang_tag (tag_at cs) k rest (sym (at_tag cs) ∙ e) in follows_none (part n) k (lang_tag s.0) s.2 (follows_tag (part n) s.0))

pub carets_stuck : (n : Next) → IsStuck (Completes (part n)) 94
carets_stuck n = stuck (part n) 94 refl (λ e. let no : ⊥ = cc in absurd no)
    (λ cs k rest e. let s = sign_some carets (after_char 94 cs) k rest (sym (at_carets cs) ∙ e) in follows_none (part n) k carets s.1 (follows_carets (part n)))
