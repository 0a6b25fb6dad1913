-- The steps in a string.
use Rattle.std.proofs.Common.{◌≡◌, ◌≢◌, ℕ, suc, ◌+◌, ◌*◌, true, List, [], ◌∷◌, Some, None, refl, sym, ap, subst, ◌∙◌, inl, inr, ◌⊎◌, arith}
use Rattle.std.specs.Prelude.{option_and_then}
use Rattle.std.specs.Char.{digit_value}
use Rattle.std.specs.Str.{encode_utf8_all}
use Rattle.std.proofs.lemmas.Bool.{ne_eqb}
use Rattle.std.proofs.lemmas.Option.{some_pair_parts}
use lib.Utf8.{scalar}
use Rattle.rdf_core.specs.Characters.{echar, is_hex}
use Rattle.rdf_core.specs.LexicalReading.{escape_at, parts_at, string_escape_at, uchar_at, with_char}
use Rattle.rdf_core.specs.declared.lexical.escapes.Inside.TheVariants as inside
use Rattle.rdf_core.proofs.EscapeLaws.{none_some}
use Rattle.rdf_core.proofs.EnclosedLaws.{with_bytes_some}
use Rattle.nquads_core.specs.LineParser.{string_at}
use Rattle.line_diagnosis.specs.declared.reason.Next.TheVariants as next
use Rattle.line_diagnosis.specs.declared.state.Digits.{Digits}
use Rattle.line_diagnosis.specs.declared.state.State.TheVariants as state
use Rattle.line_diagnosis.specs.Turn.{part, suffix, Completes}
use Rattle.line_diagnosis.specs.Rest.{Accepts, AreRanges, IsStep, IsStuck, RestOfString, is_head}
use Rattle.line_diagnosis.proofs.TurnLaws.{StringFirst, string_back, string_forth}
use Rattle.line_diagnosis.proofs.DigitLaws.{IsNarrowed, digit_back, digit_forth, digits_stop, last_allowed, last_back, narrowed_can}
use Rattle.line_diagnosis.proofs.EscapeOpens.{IsOpened, opened_can, uchar_back, uchar_forth, uchar_other}
use Rattle.line_diagnosis.proofs.IriSteps.{then_some, with_some}

-- ---- the beginning of a string

open_forth : (cs : List ℕ) → StringFirst suffix cs → RestOfString 0 cs
unfolding string_at
open_forth cs h =
    let w = with_bytes_some (parts_at inside.Quoted (Some 34) 0 cs) h.bytes h.rest h.reads in
    record { chars = w.0; rest = h.rest; read = w.1; more = h.more }

open_back : (cs : List ℕ) → RestOfString 0 cs → StringFirst suffix cs
unfolding string_at
open_back cs h = record { bytes = encode_utf8_all h.chars; rest = h.rest; reads = rw h.read refl; more = h.more }

pub string_opens : IsStep (Accepts (state.Between next.Object)) 34 state.String
string_opens = record {
  forth = λ cs h. open_forth cs (string_forth (part next.Object) suffix cs refl h);
  back = λ cs h. string_back (part next.Object) suffix cs refl (open_back cs h);
  can_end = tt;
}

-- ---- one part at a time

close_read : (cs : List ℕ) → parts_at inside.Quoted (Some 34) 0 (34 ∷ cs) ≡ Some ([], cs)
unfolding parts_at
close_read cs = refl

escape_read : (cs : List ℕ) → parts_at inside.Quoted (Some 34) 0 (92 ∷ cs) ≡ option_and_then (λ e. with_char e.0 (parts_at inside.Quoted (Some 34) e.1 cs)) (escape_at inside.Quoted cs)
unfolding parts_at
escape_read cs = refl

char_read : (c : ℕ) (cs : List ℕ) → c ≢ 34 → c ≢ 92 → c ≢ 10 → c ≢ 13 → parts_at inside.Quoted (Some 34) 0 (c ∷ cs) ≡ with_char c (parts_at inside.Quoted (Some 34) 0 cs)
unfolding parts_at
char_read c cs a b d e = rw (ne_eqb c 34 a, ne_eqb c 92 b, ne_eqb c 10 d, ne_eqb c 13 e) refl

break_read : (c : ℕ) (cs : List ℕ) → (c ≡ 10) ⊎ (c ≡ 13) → parts_at inside.Quoted (Some 34) 0 (c ∷ cs) ≡ None
unfolding parts_at
break_read c cs (inl e) = rw e refl
break_read c cs (inr e) = rw e refl

skip_read : (n c : ℕ) (cs : List ℕ) → parts_at inside.Quoted (Some 34) (suc n) (c ∷ cs) ≡ parts_at inside.Quoted (Some 34) n cs
unfolding parts_at
skip_read n c cs = refl

skip_forth : (n c : ℕ) (cs : List ℕ) → RestOfString (suc n) (c ∷ cs) → RestOfString n cs
skip_forth n c cs h = record { chars = h.chars; rest = h.rest; read = sym (skip_read n c cs) ∙ h.read; more = h.more }

skip_back : (n c : ℕ) (cs : List ℕ) → RestOfString n cs → RestOfString (suc n) (c ∷ cs)
skip_back n c cs h = record { chars = h.chars; rest = h.rest; read = skip_read n c cs ∙ h.read; more = h.more }

-- ---- the steps in a string

pub string_closes : IsStep (Accepts state.String) 34 state.AfterString
string_closes = record {
  forth = λ cs h.
      let q = some_pair_parts [] h.chars cs h.rest (sym (close_read cs) ∙ h.read) in
      subst (λ (y : List ℕ). Completes suffix y) (sym q.1) h.more;
  back = λ cs h. record { chars = []; rest = cs; read = close_read cs; more = h };
  can_end = tt;
}

pub string_backslash : IsStep (Accepts state.String) 92 state.StringBackslash
string_backslash = record {
  forth = λ cs h.
      let t = then_some (λ (e : ℕ × ℕ). with_char e.0 (parts_at inside.Quoted (Some 34) e.1 cs)) (escape_at inside.Quoted cs) (h.chars, h.rest) (sym (escape_read cs) ∙ h.read) in
      let w = with_some t.0.0 (parts_at inside.Quoted (Some 34) t.0.1 cs) h.chars h.rest t.2 in
      record { c = t.0.0; size = t.0.1; escape = t.1; string = record { chars = w.0; rest = h.rest; read = w.1; more = h.more } };
  back = λ cs h. record { chars = h.c ∷ h.string.chars; rest = h.string.rest; read = escape_read cs ∙ rw (h.escape, h.string.read) refl; more = h.string.more };
  can_end = tt;
}

pub string_goes : (c : ℕ) → c ≢ 34 → c ≢ 92 → c ≢ 10 → c ≢ 13 → IsStep (Accepts state.String) c state.String
string_goes c a b d e = record {
  forth = λ cs h.
      let w = with_some c (parts_at inside.Quoted (Some 34) 0 cs) h.chars h.rest (sym (char_read c cs a b d e) ∙ h.read) in
      record { chars = w.0; rest = h.rest; read = w.1; more = h.more };
  back = λ cs h. record { chars = c ∷ h.chars; rest = h.rest; read = char_read c cs a b d e ∙ ap (with_char c) h.read; more = h.more };
  can_end = tt;
}

pub string_breaks : (c : ℕ) → (c ≡ 10) ⊎ (c ≡ 13) → IsStuck (Accepts state.String) c
string_breaks c e cs h = none_some (h.chars, h.rest) (sym (break_read c cs e) ∙ h.read)

-- ---- the steps in an escape

short_read : (c e : ℕ) (cs : List ℕ) → echar c ≡ Some e → escape_at inside.Quoted (c ∷ cs) ≡ Some (e, 1)
unfolding escape_at string_escape_at
short_read c e cs h = rw h refl

long_read : (c : ℕ) (cs : List ℕ) → echar c ≡ None → escape_at inside.Quoted (c ∷ cs) ≡ uchar_at (c ∷ cs)
unfolding escape_at string_escape_at
long_read c cs h = rw h refl

pub string_short : (c e : ℕ) → echar c ≡ Some e → IsStep (Accepts state.StringBackslash) c state.String
string_short c e h = record {
  forth = λ cs g.
      let p = some_pair_parts e g.c 1 g.size (sym (short_read c e cs h) ∙ g.escape) in
      skip_forth 0 c cs (subst (λ (n : ℕ). RestOfString n (c ∷ cs)) (sym p.1) g.string);
  back = λ cs g. record { c = e; size = 1; escape = short_read c e cs h; string = skip_back 0 c cs g };
  can_end = tt;
}

pub string_letter : (letter : ℕ) (d : Digits) → echar letter ≡ None → IsOpened letter d → IsStep (Accepts state.StringBackslash) letter (state.StringDigits d)
string_letter letter d n o = record {
  forth = λ cs h.
      let u = uchar_forth letter d cs h.c h.size o (sym (long_read letter cs n) ∙ h.escape) in
      record { c = h.c; digits = u.0; string = skip_forth (suc d.more) letter cs (subst (λ (k : ℕ). RestOfString k (letter ∷ cs)) u.1 h.string) };
  back = λ cs h.
      let size : suc (suc d.more) ≡ suc d.more + 1 = omega arith in
      record {
        c = h.c;
        size = suc d.more + 1;
        escape = long_read letter cs n ∙ uchar_back letter d cs h.c o h.digits;
        string = subst (λ (k : ℕ). RestOfString k (letter ∷ cs)) size (skip_back (suc d.more) letter cs h.string);
      };
  can_end = opened_can scalar letter d refl o;
}

pub string_no_letter : (letter : ℕ) → echar letter ≡ None → letter ≢ 117 → letter ≢ 85 → IsStuck (Accepts state.StringBackslash) letter
string_no_letter letter n a b cs h = none_some (h.c, h.size) (sym (long_read letter cs n ∙ uchar_other letter cs a b) ∙ h.escape)

pub string_last_digit : (ranges : List (ℕ × ℕ)) (d : Digits) (c value : ℕ) → AreRanges ranges scalar → is_hex c ≡ true → value ≡ d.value * 16 + digit_value c
    → is_head ranges d.more value ≡ true → d.more ≡ 0 → IsStep (Accepts (state.StringDigits d)) c state.String
string_last_digit ranges d c value r x v h z = record {
  forth = λ cs g. subst (λ (k : ℕ). RestOfString k cs) z (skip_forth d.more c cs g.string);
  back = λ cs g. record {
    c = value;
    digits = last_back d c value cs x v z (last_allowed scalar ranges d.more value r z h);
    string = skip_back d.more c cs (subst (λ (k : ℕ). RestOfString k cs) (sym z) g);
  };
  can_end = tt;
}

pub string_digit : (ranges : List (ℕ × ℕ)) (d e : Digits) (c value : ℕ) → AreRanges ranges scalar → is_hex c ≡ true → value ≡ d.value * 16 + digit_value c
    → is_head ranges d.more value ≡ true → IsNarrowed d value e → IsStep (Accepts (state.StringDigits d)) c (state.StringDigits e)
string_digit ranges d e c value r x v h n = record {
  forth = λ cs g. record {
    c = g.c;
    digits = digit_forth d e c value g.c cs v n g.digits;
    string = subst (λ (k : ℕ). RestOfString k cs) (sym n.1) (skip_forth d.more c cs g.string);
  };
  back = λ cs g. record {
    c = g.c;
    digits = digit_back d e c value g.c cs x v n g.digits;
    string = skip_back d.more c cs (subst (λ (k : ℕ). RestOfString k cs) n.1 g.string);
  };
  can_end = narrowed_can scalar ranges d e value r n h;
}

pub string_no_digit : (ranges : List (ℕ × ℕ)) (d : Digits) (c : ℕ) → AreRanges ranges scalar
    → (is_hex c ≡ true → is_head ranges d.more (d.value * 16 + digit_value c) ≡ true → ⊥) → IsStuck (Accepts (state.StringDigits d)) c
string_no_digit ranges d c r n cs h = digits_stop scalar ranges d c h.c cs r n h.digits.scalar h.digits
