-- The steps of the functions that read escapes.
use Rattle.std.proofs.Common.{◌≡◌, ℕ, zero, suc, ◌+◌, ◌*◌, Bool, true, false, cond, eqb, List, [], ◌∷◌, drop, Option, Some, None, MatchOption, refl, sym, ◌∙◌, add-one, eq-eqb, ◌⊎◌, inl, inr}
use Rattle.std.specs.Char.{digit_value, IsScalar}
use Rattle.std.specs.Str.{IsUtf8, chars}
use Rattle.std.proofs.lemmas.Option.{some_pair_parts}
use Rattle.std.proofs.lemmas.Bool.{ne_eqb}
use Rattle.rdf_core.specs.Characters.{is_hex, is_iri_char, echar}
use Rattle.rdf_core.specs.declared.lexical.escapes.Inside.TheVariants.{Iri}
use Rattle.rdf_core.specs.LexicalReading.{hex_at, scalar_of, uchar_at, keep_iri_char, string_escape_at, escape_at, NamesChar}

pub cond_is : {A : Type 0} (b : Bool) (x : Option A) (y : A) → cond b x None ≡ Some y → (b ≡ true) × (x ≡ Some y)
cond_is true x y e = (refl, e)
cond_is false x y e = absurd cc

pub which : (b : Bool) → (b ≡ true) ⊎ (b ≡ false)
which true = inl refl
which false = inr refl

pub eqb_no : (a b : ℕ) → (a ≡ b → ⊥) → eqb a b ≡ false
eqb_no a b h = ne_eqb a b h

pub eqb_yes : (a b : ℕ) → a ≡ b → eqb a b ≡ true
eqb_yes a b h = eq-eqb a b h

pub hex_rest : (n v : ℕ) (cs : List ℕ) (w : ℕ) (r : List ℕ) → hex_at n v cs ≡ Some (w, r) → r ≡ drop n cs
unfolding hex_at
hex_rest zero v cs w r e = sym (some_pair_parts v w cs r e).1
hex_rest (suc n) v [] w r e = absurd cc
hex_rest (suc n) v (c ∷ cs) w r e = hex_rest n (v * 16 + digit_value c) cs w r (cond_is (is_hex c) (hex_at n (v * 16 + digit_value c) cs) (w, r) e).1

pub scalar_is : (n v c : ℕ) (r : List ℕ) (read : Option (ℕ × List ℕ)) → read ≡ Some (v, r) → IsScalar v → c ≡ v → scalar_of n read ≡ Some (c, n + 1)
scalar_is n v c r read e s is = rw (e, s, is) refl

-- the letters u and U
pub uchar_4 : (text : List ℕ) (c : ℕ) (cs : List ℕ) → text ≡ c ∷ cs → c ≡ 117 → uchar_at text ≡ scalar_of 4 (hex_at 4 0 cs)
unfolding uchar_at
uchar_4 text c cs e k = rw (e, k) refl

pub uchar_8 : (text : List ℕ) (c : ℕ) (cs : List ℕ) → text ≡ c ∷ cs → c ≡ 85 → uchar_at text ≡ scalar_of 8 (hex_at 8 0 cs)
unfolding uchar_at
uchar_8 text c cs e k = rw (e, k) refl

pub uchar_nil : (text : List ℕ) → text ≡ [] → uchar_at text ≡ None
unfolding uchar_at
uchar_nil text e = rw e refl

pub uchar_none : (text : List ℕ) (c : ℕ) (cs : List ℕ) → text ≡ c ∷ cs → (c ≡ 117 → ⊥) → (c ≡ 85 → ⊥) → uchar_at text ≡ None
unfolding uchar_at
uchar_none text c cs e a b = rw (e, eqb_no c 117 a, eqb_no c 85 b) refl

pub string_nil : (text : List ℕ) → text ≡ [] → string_escape_at text ≡ None
unfolding string_escape_at
string_nil text e = rw e refl

pub string_echar : (text : List ℕ) (e : ℕ) (cs : List ℕ) (c : ℕ) → text ≡ e ∷ cs → echar e ≡ Some c → string_escape_at text ≡ Some (c, 1)
unfolding string_escape_at
string_echar text e cs c h k = rw h (rw k refl)

pub string_uchar : (text : List ℕ) (e : ℕ) (cs : List ℕ) → text ≡ e ∷ cs → echar e ≡ None → string_escape_at text ≡ uchar_at text
unfolding string_escape_at
string_uchar text e cs h k = rw h (rw k refl)

pub iri_escape : (text : List ℕ) → escape_at Iri text ≡ keep_iri_char (uchar_at text)
unfolding escape_at
iri_escape text = refl

pub keep_no : (read : Option (ℕ × ℕ)) (text : List ℕ) (c : ℕ) (rest : List ℕ) → NamesChar read text c rest → is_iri_char c ≡ false → keep_iri_char read ≡ None
keep_no read text c rest h no' = rw (h.is, no') refl

pub keep_yes : (read : Option (ℕ × ℕ)) (text : List ℕ) (c : ℕ) (rest : List ℕ) → NamesChar read text c rest → is_iri_char c ≡ true → NamesChar (keep_iri_char read) text c rest
keep_yes read text c rest h yes' = record { skipped = h.skipped; is = rw (h.is, yes') refl; left = h.left; utf8 = h.utf8 }

pub option_weaker : {X P P' : Type 0} {Q Q' : X → Type 0} (o : Option X) → MatchOption o P Q → (P → P') → ((x : X) → Q x → Q' x) → MatchOption o P' Q'
option_weaker None h f g = f h
option_weaker (Some x) h f g = g x h

-- the same escape, read from one character earlier
pub names_after : (read : Option (ℕ × ℕ)) (text remaining : List ℕ) (letter c n : ℕ) (rest : List ℕ) → chars text ≡ letter ∷ chars remaining → read ≡ Some (c, n + 1) → chars rest ≡ drop n (chars remaining) → IsUtf8 rest → NamesChar read text c rest
names_after read text remaining letter c n rest e is left u = record { skipped = n + 1; is = is; left = rw (e, add-one) left; utf8 = u }

pub NamesChar-same : (read other : Option (ℕ × ℕ)) (text : List ℕ) (c : ℕ) (rest : List ℕ) → read ≡ other → NamesChar other text c rest → NamesChar read text c rest
NamesChar-same read other text c rest e h = record { skipped = h.skipped; is = e ∙ h.is; left = h.left; utf8 = h.utf8 }

pub iri_nil : (text : List ℕ) → uchar_at text ≡ None → escape_at Iri text ≡ None
unfolding escape_at
iri_nil text e = rw e refl

pub iri_no : (text : List ℕ) (c : ℕ) (rest : List ℕ) → NamesChar (uchar_at (chars text)) text c rest → is_iri_char c ≡ false → escape_at Iri (chars text) ≡ None
iri_no text c rest h e = iri_escape (chars text) ∙ keep_no _ text c rest h e

pub iri_yes : (text : List ℕ) (c : ℕ) (rest : List ℕ) → NamesChar (uchar_at (chars text)) text c rest → is_iri_char c ≡ true → NamesChar (escape_at Iri (chars text)) text c rest
iri_yes text c rest h e = NamesChar-same _ _ text c rest (iri_escape (chars text)) (keep_yes _ text c rest h e)
