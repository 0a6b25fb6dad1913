-- The steps in an IRI.
use Rattle.std.proofs.Common.{◌≡◌, ◌≢◌, ℕ, suc, ◌+◌, ◌*◌, true, false, eqb, List, [], ◌∷◌, Option, Some, None, refl, sym, ap, subst, ◌∙◌, inl, inr, arith}
use Rattle.std.specs.Prelude.{option_and_then}
use Rattle.std.specs.Char.{digit_value}
use Rattle.std.specs.Str.{encode_utf8_all}
use Rattle.std.proofs.lemmas.Bool.{eqb-true, ne_eqb}
use Rattle.std.proofs.lemmas.Option.{some_pair_parts, same_Some}
use lib.Utf8.{scalar}
use Rattle.rdf_core.specs.Characters.{is_hex, is_iri_char}
use Rattle.rdf_core.specs.Lexical.{has_scheme}
use Rattle.rdf_core.specs.LexicalReading.{escape_at, keep_iri_char, parts_at, uchar_at, with_bytes, with_char}
use Rattle.rdf_core.specs.declared.lexical.escapes.Inside.{Inside}
use Rattle.rdf_core.specs.declared.lexical.escapes.Inside.TheVariants as inside
use Rattle.rdf_core.proofs.EscapeSteps.{cond_is, which}
use Rattle.rdf_core.proofs.EscapeLaws.{none_some}
use Rattle.rdf_core.proofs.EnclosedLaws.{with_bytes_some}
use Rattle.nquads_core.specs.LineParser.{if_scheme, iri_at}
use Rattle.nquads_core.proofs.TerminalLaws.{bind_some}
use Rattle.line_diagnosis.specs.declared.reason.Next.{Next}
use Rattle.line_diagnosis.specs.declared.state.Digits.{Digits}
use Rattle.line_diagnosis.specs.declared.state.Part.{Part}
use Rattle.line_diagnosis.specs.declared.state.Scheme.{Scheme}
use Rattle.line_diagnosis.specs.declared.state.Scheme.TheVariants as scheme
use Rattle.line_diagnosis.specs.declared.state.State.TheVariants as state
use Rattle.line_diagnosis.specs.Turn.{part, after_iri, Completes}
use Rattle.line_diagnosis.specs.Rest.{Accepts, AreRanges, IsStep, IsStuck, RestOfIri, RestOfIriEscape, after, completes_scheme, is_head, may_come}
use Rattle.line_diagnosis.proofs.TurnLaws.{IriFirst, iri_back, iri_forth}
use Rattle.line_diagnosis.proofs.SchemeLaws.{may, may_be, read_scheme, scheme_of_bytes}
use Rattle.line_diagnosis.proofs.DigitLaws.{IsNarrowed, digit_back, digit_forth, digits_stop, last_allowed, last_back, last_forth, narrowed_can}
use Rattle.line_diagnosis.proofs.EscapeOpens.{IsOpened, keep_parts, opened_can, uchar_back, uchar_forth, uchar_other}

-- ---- the beginning of an IRI

open_forth : (p : Part) (cs : List ℕ) → IriFirst (part (after p)) cs → RestOfIri p scheme.Unread [] 0 cs
unfolding iri_at
open_forth p cs h =
    let b = bind_some (with_bytes [] (parts_at inside.Iri (Some 62) 0 cs)) if_scheme (h.bytes, h.rest) h.reads in
    let g = cond_is {A = List ℕ × List ℕ} (has_scheme b.0.0) (Some b.0) (h.bytes, h.rest) b.2 in
    let same = same_Some b.0 (h.bytes, h.rest) g.1 in
    let w = with_bytes_some (parts_at inside.Iri (Some 62) 0 cs) h.bytes h.rest (b.1 ∙ ap (λ (y : List ℕ × List ℕ). Some y) same) in
    let s : has_scheme h.bytes ≡ true = subst (λ (y : List ℕ × List ℕ). has_scheme y.0 ≡ true) same g.0 in
    record { chars = w.0; rest = h.rest; read = w.1; scheme = sym (scheme_of_bytes w.0) ∙ ap has_scheme (sym w.2) ∙ s; more = h.more }

open_back : (p : Part) (cs : List ℕ) → RestOfIri p scheme.Unread [] 0 cs → IriFirst (part (after p)) cs
unfolding iri_at
open_back p cs h =
    let s : has_scheme (encode_utf8_all h.chars) ≡ true = scheme_of_bytes h.chars ∙ h.scheme in
    record { bytes = encode_utf8_all h.chars; rest = h.rest; reads = rw (h.read, s) refl; more = h.more }

pub iri_opens : (n : Next) (p : Part) → after_iri (part n) ≡ Some (part (after p)) → IsStep (Accepts (state.Between n)) 60 (state.Iri p scheme.Unread)
iri_opens n p a = record {
  forth = λ cs h. open_forth p cs (iri_forth (part n) (part (after p)) cs a h);
  back = λ cs h. iri_back (part n) (part (after p)) cs a (open_back p cs h);
  can_end = tt;
}

-- ---- one part at a time

close_read : (cs : List ℕ) → parts_at inside.Iri (Some 62) 0 (62 ∷ cs) ≡ Some ([], cs)
unfolding parts_at
close_read cs = refl

escape_read : (cs : List ℕ) → parts_at inside.Iri (Some 62) 0 (92 ∷ cs) ≡ option_and_then (λ e. with_char e.0 (parts_at inside.Iri (Some 62) e.1 cs)) (escape_at inside.Iri cs)
unfolding parts_at
escape_read cs = refl

char_read : (c : ℕ) (cs : List ℕ) → eqb c 62 ≡ false → eqb c 92 ≡ false → is_iri_char c ≡ true → parts_at inside.Iri (Some 62) 0 (c ∷ cs) ≡ with_char c (parts_at inside.Iri (Some 62) 0 cs)
unfolding parts_at
char_read c cs a b h = rw (h, a, b) refl

none_read : (c : ℕ) (cs : List ℕ) → eqb c 62 ≡ false → eqb c 92 ≡ false → is_iri_char c ≡ false → parts_at inside.Iri (Some 62) 0 (c ∷ cs) ≡ None
unfolding parts_at
none_read c cs a b h = rw (h, a, b) refl

skip_read : (k : Inside) (close n c : ℕ) (cs : List ℕ) → parts_at k (Some close) (suc n) (c ∷ cs) ≡ parts_at k (Some close) n cs
unfolding parts_at
skip_read k close n c cs = refl

pub with_some : (c : ℕ) (read : Option (List ℕ × List ℕ)) (v rest : List ℕ) → with_char c read ≡ Some (v, rest) → (cs : List ℕ) × (read ≡ Some (cs, rest)) × (v ≡ c ∷ cs)
with_some c None v rest e = absurd (none_some (v, rest) e)
with_some c (Some x) v rest e =
    let p = some_pair_parts (c ∷ x.0) v x.1 rest e in
    (x.0, ap (λ (y : List ℕ). Some (x.0, y)) p.1, sym p.0)

pub then_some : {A B : Type 0} (f : A → Option B) (o : Option A) (y : B) → option_and_then f o ≡ Some y → (x : A) × (o ≡ Some x) × (f x ≡ Some y)
then_some f None y e = absurd (none_some y e)
then_some f (Some x) y e = (x, refl, e)

-- ---- the steps in an IRI

backslash_forth : (p : Part) (s : Scheme) (cs : List ℕ) → RestOfIri p s [] 0 (92 ∷ cs) → RestOfIriEscape p s cs
backslash_forth p s cs h =
    let t = then_some (λ (e : ℕ × ℕ). with_char e.0 (parts_at inside.Iri (Some 62) e.1 cs)) (escape_at inside.Iri cs) (h.chars, h.rest) (sym (escape_read cs) ∙ h.read) in
    let w = with_some t.0.0 (parts_at inside.Iri (Some 62) t.0.1 cs) h.chars h.rest t.2 in
    record { c = t.0.0; size = t.0.1; escape = t.1; iri = record { chars = w.0; rest = h.rest; read = w.1; scheme = subst (λ (y : List ℕ). completes_scheme s y ≡ true) w.2 h.scheme; more = h.more } }

backslash_back : (p : Part) (s : Scheme) (cs : List ℕ) → RestOfIriEscape p s cs → RestOfIri p s [] 0 (92 ∷ cs)
backslash_back p s cs h = record { chars = h.c ∷ h.iri.chars; rest = h.iri.rest; read = escape_read cs ∙ rw (h.escape, h.iri.read) refl; scheme = h.iri.scheme; more = h.iri.more }

pub iri_backslash : (p : Part) (s : Scheme) → IsStep (Accepts (state.Iri p s)) 92 (state.IriBackslash p s)
iri_backslash p s = record { forth = λ cs h. backslash_forth p s cs h; back = λ cs h. backslash_back p s cs h; can_end = tt }

pub iri_closes : (p : Part) → IsStep (Accepts (state.Iri p scheme.Read)) 62 (state.Between (after p))
iri_closes p = record {
  forth = λ cs h.
      let q = some_pair_parts [] h.chars cs h.rest (sym (close_read cs) ∙ h.read) in
      subst (λ (y : List ℕ). Completes (part (after p)) y) (sym q.1) h.more;
  back = λ cs h. record { chars = []; rest = cs; read = close_read cs; scheme = refl; more = h };
  can_end = tt;
}

no_close : (c : ℕ) → is_iri_char c ≡ true → eqb c 62 ≡ false
no_close c h = elim (which (eqb c 62)) [
  | inl e ↦ let no : ⊥ = cc (sym h ∙ ap is_iri_char (eqb-true c 62 e)) in absurd no
  | inr e ↦ e
]

no_backslash : (c : ℕ) → is_iri_char c ≡ true → eqb c 92 ≡ false
no_backslash c h = elim (which (eqb c 92)) [
  | inl e ↦ let no : ⊥ = cc (sym h ∙ ap is_iri_char (eqb-true c 92 e)) in absurd no
  | inr e ↦ e
]

pub iri_goes : (p : Part) (s t : Scheme) (c : ℕ) → may_come s c ≡ true → ((cs : List ℕ) → completes_scheme s (c ∷ cs) ≡ completes_scheme t cs) → IsStep (Accepts (state.Iri p s)) c (state.Iri p t)
iri_goes p s t c m a =
    let b = may_be s c m in
    record {
      forth = λ cs h.
          let w = with_some c (parts_at inside.Iri (Some 62) 0 cs) h.chars h.rest (sym (char_read c cs (no_close c b.0) (no_backslash c b.0) b.0) ∙ h.read) in
          record { chars = w.0; rest = h.rest; read = w.1; scheme = sym (a w.0) ∙ ap (completes_scheme s) (sym w.2) ∙ h.scheme; more = h.more };
      back = λ cs h.
          record { chars = c ∷ h.chars; rest = h.rest; read = char_read c cs (no_close c b.0) (no_backslash c b.0) b.0 ∙ ap (with_char c) h.read; scheme = a h.chars ∙ h.scheme; more = h.more };
      can_end = tt;
    }

pub iri_stops : (p : Part) (s : Scheme) (c : ℕ) → c ≢ 92 → (c ≡ 62 → s ≡ scheme.Read → ⊥) → scalar c ≡ true → may_come s c ≡ false → IsStuck (Accepts (state.Iri p s)) c
iri_stops p s c b n u m cs h = elim (which (eqb c 62)) [
  | inl e ↦
      let q = some_pair_parts [] h.chars cs h.rest (sym (subst (λ (x : ℕ). parts_at inside.Iri (Some 62) 0 (x ∷ cs) ≡ Some ([], cs)) (sym (eqb-true c 62 e)) (close_read cs)) ∙ h.read) in
      n (eqb-true c 62 e) (read_scheme s (ap (completes_scheme s) q.0 ∙ h.scheme))
  | inr e ↦ elim (which (is_iri_char c)) [
    | inl i ↦
        let w = with_some c (parts_at inside.Iri (Some 62) 0 cs) h.chars h.rest (sym (char_read c cs e (ne_eqb c 92 b) i) ∙ h.read) in
        let yes = may s c w.0 i u (ap (completes_scheme s) (sym w.2) ∙ h.scheme) in
        let no : ⊥ = cc in no
    | inr i ↦ none_some (h.chars, h.rest) (sym (none_read c cs e (ne_eqb c 92 b) i) ∙ h.read)
  ]
]

pub iri_closes_at : (p : Part) (s : Scheme) (c : ℕ) (n : Next) → s ≡ scheme.Read → c ≡ 62 → n ≡ after p → IsStep (Accepts (state.Iri p s)) c (state.Between n)
iri_closes_at p s c n e f g =
    subst (λ (x : Scheme). IsStep (Accepts (state.Iri p x)) c (state.Between n)) (sym e)
    (subst (λ (x : ℕ). IsStep (Accepts (state.Iri p scheme.Read)) x (state.Between n)) (sym f)
    (subst (λ (x : Next). IsStep (Accepts (state.Iri p scheme.Read)) 62 (state.Between x)) (sym g) (iri_closes p)))

pub iri_goes_at : (p : Part) (s t : Scheme) (c code : ℕ) → code ≡ c → may_come s c ≡ true
    → (may_come s code ≡ true → (cs : List ℕ) → completes_scheme s (code ∷ cs) ≡ completes_scheme t cs) → IsStep (Accepts (state.Iri p s)) c (state.Iri p t)
iri_goes_at p s t c code e m a =
    let n : may_come s code ≡ true = subst (λ (x : ℕ). may_come s x ≡ true) (sym e) m in
    subst (λ (x : ℕ). IsStep (Accepts (state.Iri p s)) x (state.Iri p t)) e (iri_goes p s t code n (a n))

-- ---- the steps in an escape

escape_is : (cs : List ℕ) → escape_at inside.Iri cs ≡ keep_iri_char (uchar_at cs)
unfolding escape_at
escape_is cs = refl

skip_forth : (p : Part) (s : Scheme) (front : List ℕ) (n c : ℕ) (cs : List ℕ) → RestOfIri p s front (suc n) (c ∷ cs) → RestOfIri p s front n cs
skip_forth p s front n c cs h = record { chars = h.chars; rest = h.rest; read = sym (skip_read inside.Iri 62 n c cs) ∙ h.read; scheme = h.scheme; more = h.more }

skip_back : (p : Part) (s : Scheme) (front : List ℕ) (n c : ℕ) (cs : List ℕ) → RestOfIri p s front n cs → RestOfIri p s front (suc n) (c ∷ cs)
skip_back p s front n c cs h = record { chars = h.chars; rest = h.rest; read = skip_read inside.Iri 62 n c cs ∙ h.read; scheme = h.scheme; more = h.more }

a_may_come : (s : Scheme) → may_come s 97 ≡ true
a_may_come scheme.Unread = refl
a_may_come scheme.Begun = refl
a_may_come scheme.Read = refl

pub iri_letter : (p : Part) (s : Scheme) (letter : ℕ) (d : Digits) → IsOpened letter d → IsStep (Accepts (state.IriBackslash p s)) letter (state.IriDigits p s d)
iri_letter p s letter d o = record {
  forth = λ cs h.
      let k = keep_parts (uchar_at (letter ∷ cs)) h.c h.size (sym (escape_is (letter ∷ cs)) ∙ h.escape) in
      let u = uchar_forth letter d cs h.c h.size o k.1 in
      record { c = h.c; digits = u.0; allowed = k.0; iri = skip_forth p s (h.c ∷ []) (suc d.more) letter cs (subst (λ (n : ℕ). RestOfIri p s (h.c ∷ []) n (letter ∷ cs)) u.1 h.iri) };
  back = λ cs h.
      let size : suc (suc d.more) ≡ suc d.more + 1 = omega arith in
      record {
        c = h.c;
        size = suc d.more + 1;
        escape = escape_is (letter ∷ cs) ∙ ap keep_iri_char (uchar_back letter d cs h.c o h.digits) ∙ rw (h.allowed) refl;
        iri = subst (λ (n : ℕ). RestOfIri p s (h.c ∷ []) n (letter ∷ cs)) size (skip_back p s (h.c ∷ []) (suc d.more) letter cs h.iri);
      };
  can_end = opened_can (may_come s) letter d (a_may_come s) o;
}

pub iri_no_letter : (p : Part) (s : Scheme) (letter : ℕ) → letter ≢ 117 → letter ≢ 85 → IsStuck (Accepts (state.IriBackslash p s)) letter
iri_no_letter p s letter a b cs h = none_some (h.c, h.size) (sym (escape_is (letter ∷ cs) ∙ ap keep_iri_char (uchar_other letter cs a b)) ∙ h.escape)

pub iri_last_digit : (p : Part) (s t : Scheme) (ranges : List (ℕ × ℕ)) (d : Digits) (c value : ℕ) → AreRanges ranges (may_come s) → is_hex c ≡ true → value ≡ d.value * 16 + digit_value c
    → is_head ranges d.more value ≡ true → d.more ≡ 0 → (may_come s value ≡ true → (cs : List ℕ) → completes_scheme s (value ∷ cs) ≡ completes_scheme t cs)
    → IsStep (Accepts (state.IriDigits p s d)) c (state.Iri p t)
iri_last_digit p s t ranges d c value r x v h z a =
    let m = last_allowed (may_come s) ranges d.more value r z h in
    let b = may_be s value m in
    record {
      forth = λ cs g.
          let same = last_forth d c value g.c cs v z g.digits in
          let i = skip_forth p s (g.c ∷ []) d.more c cs g.iri in
          record {
            chars = i.chars;
            rest = i.rest;
            read = subst (λ (n : ℕ). parts_at inside.Iri (Some 62) n cs ≡ Some (i.chars, i.rest)) z i.read;
            scheme = sym (a m i.chars) ∙ ap (λ (y : ℕ). completes_scheme s (y ∷ i.chars)) (sym same) ∙ i.scheme;
            more = i.more;
          };
      back = λ cs g.
          record {
            c = value;
            digits = last_back d c value cs x v z b.1;
            allowed = b.0;
            iri = skip_back p s (value ∷ []) d.more c cs (record {
              chars = g.chars;
              rest = g.rest;
              read = subst (λ (n : ℕ). parts_at inside.Iri (Some 62) n cs ≡ Some (g.chars, g.rest)) (sym z) g.read;
              scheme = a m g.chars ∙ g.scheme;
              more = g.more;
            });
          };
      can_end = tt;
    }

pub iri_digit : (p : Part) (s : Scheme) (ranges : List (ℕ × ℕ)) (d e : Digits) (c value : ℕ) → AreRanges ranges (may_come s) → is_hex c ≡ true → value ≡ d.value * 16 + digit_value c
    → is_head ranges d.more value ≡ true → IsNarrowed d value e → IsStep (Accepts (state.IriDigits p s d)) c (state.IriDigits p s e)
iri_digit p s ranges d e c value r x v h n = record {
  forth = λ cs g.
      record {
        c = g.c;
        digits = digit_forth d e c value g.c cs v n g.digits;
        allowed = g.allowed;
        iri = subst (λ (k : ℕ). RestOfIri p s (g.c ∷ []) k cs) (sym n.1) (skip_forth p s (g.c ∷ []) d.more c cs g.iri);
      };
  back = λ cs g.
      record {
        c = g.c;
        digits = digit_back d e c value g.c cs x v n g.digits;
        allowed = g.allowed;
        iri = skip_back p s (g.c ∷ []) d.more c cs (subst (λ (k : ℕ). RestOfIri p s (g.c ∷ []) k cs) n.1 g.iri);
      };
  can_end = narrowed_can (may_come s) ranges d e value r n h;
}

pub iri_no_digit : (p : Part) (s : Scheme) (ranges : List (ℕ × ℕ)) (d : Digits) (c : ℕ) → AreRanges ranges (may_come s)
    → (is_hex c ≡ true → is_head ranges d.more (d.value * 16 + digit_value c) ≡ true → ⊥) → IsStuck (Accepts (state.IriDigits p s d)) c
iri_no_digit p s ranges d c r n cs h =
    digits_stop (may_come s) ranges d c h.c cs r n (may s h.c h.iri.chars h.allowed h.digits.scalar h.iri.scheme) h.digits
