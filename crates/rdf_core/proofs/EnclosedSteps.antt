-- The steps of the loop that reads a delimited text.
use Rattle.std.proofs.Common.{◌≡◌, ℕ, zero, suc, true, false, List, [], ◌∷◌, ◌++◌, drop, Option, Some, None, refl, sym, ap, ◌∙◌, append_assoc, append-nil, subst}
use Rattle.std.specs.Char.{encode_utf8}
use Rattle.std.specs.Str.{IsUtf8, chars, encode_utf8_all}
use Rattle.rdf_core.specs.declared.lexical.escapes.Inside.{Inside}
use Rattle.rdf_core.specs.LexicalReading.{Finds, escape_at, is_close, is_raw, with_char, at_text_end, parts_at, with_bytes}
use Rattle.rdf_core.proofs.EscapeSteps.{eqb_no, eqb_yes}

-- value holds the bytes of the characters read from all, and rest is the text that is not read yet
pub record HasRead (k : Inside) (cl : Option ℕ) (value rest all : List ℕ) : Type 0 where
  pub utf8 : IsUtf8 rest
  pub left : with_bytes value (parts_at k cl 0 (chars rest)) ≡ with_bytes [] (parts_at k cl 0 (chars all))

pub skips : (k : Inside) (cl : Option ℕ) (n : ℕ) (cs : List ℕ) → parts_at k cl n cs ≡ parts_at k cl 0 (drop n cs)
unfolding parts_at
skips k cl zero cs = refl
skips k cl (suc n) [] = refl
skips k cl (suc n) (c ∷ cs) = skips k cl n cs

pub push_char : (front : List ℕ) (c : ℕ) (read : Option (List ℕ × List ℕ)) → with_bytes front (with_char c read) ≡ with_bytes (front ++ encode_utf8 c) read
push_char front c None = refl
push_char front c (Some x) = ap (λ (t : List ℕ). Some (t, x.1)) (sym (append_assoc front (encode_utf8 c) (encode_utf8_all x.0)))

-- ---- the steps: what is read from a text that begins with c

pub at_end : (k : Inside) (cl : Option ℕ) (cs : List ℕ) → cs ≡ [] → parts_at k cl 0 cs ≡ at_text_end cl
unfolding parts_at
at_end k cl cs e = rw e refl

pub at_close : (k : Inside) (cl : Option ℕ) (c : ℕ) (cs ds : List ℕ) → cs ≡ c ∷ ds → is_close cl c ≡ true → parts_at k cl 0 cs ≡ Some ([], ds)
unfolding parts_at
at_close k cl c cs ds e h = rw (e, h) refl

pub at_raw : (k : Inside) (cl : Option ℕ) (c : ℕ) (cs ds : List ℕ) → cs ≡ c ∷ ds → is_close cl c ≡ false → (c ≡ 92 → ⊥) → is_raw k c ≡ true → parts_at k cl 0 cs ≡ with_char c (parts_at k cl 0 ds)
unfolding parts_at
at_raw k cl c cs ds e a b r = rw (e, a, eqb_no c 92 b, r) refl

pub at_other : (k : Inside) (cl : Option ℕ) (c : ℕ) (cs ds : List ℕ) → cs ≡ c ∷ ds → is_close cl c ≡ false → (c ≡ 92 → ⊥) → is_raw k c ≡ false → parts_at k cl 0 cs ≡ None
unfolding parts_at
at_other k cl c cs ds e a b r = rw (e, a, eqb_no c 92 b, r) refl

pub at_escape : (k : Inside) (cl : Option ℕ) (c : ℕ) (cs ds : List ℕ) (m n : ℕ) → cs ≡ c ∷ ds → is_close cl c ≡ false → c ≡ 92 → escape_at k ds ≡ Some (m, n) → parts_at k cl 0 cs ≡ with_char m (parts_at k cl 0 (drop n ds))
unfolding parts_at
at_escape k cl c cs ds m n e a b r = rw (e, a, eqb_yes c 92 b, r) (ap (with_char m) (skips k cl n ds))

pub at_wrong_escape : (k : Inside) (cl : Option ℕ) (c : ℕ) (cs ds : List ℕ) → cs ≡ c ∷ ds → is_close cl c ≡ false → c ≡ 92 → escape_at k ds ≡ None → parts_at k cl 0 cs ≡ None
unfolding parts_at
at_wrong_escape k cl c cs ds e a b r = rw (e, a, eqb_yes c 92 b, r) refl

-- ---- one iteration of the loop

pub stops : (k : Inside) (cl : Option ℕ) (value rest all : List ℕ) → HasRead k cl value rest all → parts_at k cl 0 (chars rest) ≡ None → with_bytes [] (parts_at k cl 0 (chars all)) ≡ None
stops k cl value rest all h e = sym h.left ∙ ap (with_bytes value) e

pub closes : (k : Inside) (cl : Option ℕ) (value rest all ds : List ℕ) → HasRead k cl value rest all → parts_at k cl 0 (chars rest) ≡ Some ([], ds) → with_bytes [] (parts_at k cl 0 (chars all)) ≡ Some (value, ds)
closes k cl value rest all ds h e = sym h.left ∙ ap (with_bytes value) e ∙ ap (λ (t : List ℕ). Some (t, ds)) (append-nil value)

pub goes_on : (k : Inside) (cl : Option ℕ) (value rest all : List ℕ) (c : ℕ) (next value' : List ℕ) → HasRead k cl value rest all → parts_at k cl 0 (chars rest) ≡ with_char c (parts_at k cl 0 (chars next)) → value' ≡ value ++ encode_utf8 c → IsUtf8 next → HasRead k cl value' next all
goes_on k cl value rest all c next value' h e v u =
    record { utf8 = u; left = rw v (sym (push_char value c (parts_at k cl 0 (chars next))) ∙ sym (ap (with_bytes value) e) ∙ h.left) }

-- the text ends, and the closing delimiter is missing or the kind of text has none
pub no_close : (k : Inside) (cl : Option ℕ) (d : ℕ) (value rest all : List ℕ) → cl ≡ Some d → HasRead k cl value rest all → chars rest ≡ [] → with_bytes [] (parts_at k cl 0 (chars all)) ≡ None
no_close k cl d value rest all s h e = stops k cl value rest all h (at_end k cl (chars rest) e ∙ ap at_text_end s)

pub all_read : (k : Inside) (cl : Option ℕ) (value rest all : List ℕ) → cl ≡ None → HasRead k cl value rest all → chars rest ≡ [] → with_bytes [] (parts_at k cl 0 (chars all)) ≡ Some (value, chars rest)
all_read k cl value rest all s h e =
    closes k cl value rest all [] h (at_end k cl (chars rest) e ∙ ap at_text_end s) ∙ ap (λ (t : List ℕ). Some (value, t)) (sym e)

-- ---- the result, by its variant

pub found_some : {X Y : Type 0} (view : X → Y) (found : Option X) (x : X) (read : Option Y) → found ≡ Some x → Finds view found read → read ≡ Some (view x)
found_some {X} view found x read e h = subst (λ (y : Option X). Finds view y read) e h

pub found_none : {X Y : Type 0} (view : X → Y) (found : Option X) (read : Option Y) → found ≡ None → Finds view found read → read ≡ None
found_none {X} view found read e h = subst (λ (y : Option X). Finds view y read) e h
