-- Reading an escape finds it if and only if the text begins with one.
use Rattle.std.proofs.Common.{◌≡◌, ℕ, zero, suc, ◌+◌, ◌*◌, Bool, true, false, cond, eqb, List, [], ◌∷◌, ◌++◌, length, Option, Some, None, refl, sym, ap, ◌∙◌, arith, inl, inr, ◌⊎◌, subst}
use Rattle.std.specs.Prelude.{◌&&◌}
use Rattle.std.specs.Char.{digit_value, IsScalar}
use Rattle.std.proofs.lemmas.Bool.{eqb-true}
use Rattle.std.proofs.lemmas.Option.{some_pair_parts, same_Some}
use lib.Utf8.{scalar}
use Rattle.rdf_core.specs.Characters.{is_hex, is_iri_char, hex_from, all_pass, echar}
use Rattle.rdf_core.specs.declared.lexical.escapes.Inside.{Inside}
use Rattle.rdf_core.specs.declared.lexical.escapes.Inside.TheVariants.{Iri, Quoted, Any}
use Rattle.rdf_core.specs.Escapes.{IsUchar, IsEchar, IsPart}
use Rattle.rdf_core.specs.LexicalReading.{hex_at, scalar_of, uchar_at, keep_iri_char, or_uchar, string_escape_at, escape_at}
use Rattle.rdf_core.proofs.EscapeSteps.{cond_is, scalar_is, which}

pub and_is : (a b : Bool) → a ≡ true → b ≡ true → (a && b) ≡ true
and_is a b e f = rw (e, f) refl

pub and_parts : (a b : Bool) → (a && b) ≡ true → (a ≡ true) × (b ≡ true)
and_parts true b e = (refl, e)
and_parts false b e = absurd cc

-- ---- digits

pub record TookHex (n v : ℕ) (cs : List ℕ) (w : ℕ) (r : List ℕ) : Type 0 where
  pub digits : List ℕ
  pub parts : cs ≡ digits ++ r
  pub count : length digits ≡ n
  pub hex : all_pass is_hex digits ≡ true
  pub worth : hex_from v digits ≡ w

pub hex_takes : (n v : ℕ) (cs : List ℕ) (w : ℕ) (r : List ℕ) → hex_at n v cs ≡ Some (w, r) → TookHex n v cs w r
unfolding hex_at
hex_takes zero v cs w r e = let p = some_pair_parts v w cs r e in record { digits = []; parts = p.1; count = refl; hex = refl; worth = p.0 }
hex_takes (suc n) v [] w r e = absurd cc
hex_takes (suc n) v (c ∷ cs) w r e =
    let g = cond_is (is_hex c) (hex_at n (v * 16 + digit_value c) cs) (w, r) e in
    let t = hex_takes n (v * 16 + digit_value c) cs w r g.1 in
    record { digits = c ∷ t.digits; parts = ap (λ (x : List ℕ). c ∷ x) t.parts; count = ap suc t.count; hex = and_is (is_hex c) (all_pass is_hex t.digits) g.0 t.hex; worth = t.worth }

pub hex_again : (v : ℕ) (ds t : List ℕ) → all_pass is_hex ds ≡ true → hex_at (length ds) v (ds ++ t) ≡ Some (hex_from v ds, t)
unfolding hex_at
hex_again v [] t h = refl
hex_again v (d ∷ ds) t h = let p = and_parts (is_hex d) (all_pass is_hex ds) h in rw p.0 (hex_again (v * 16 + digit_value d) ds t p.1)

-- ---- \u and \U

some_pair_n : (a b c d : ℕ) → ◌≡◌ {A = Option (ℕ × ℕ)} (Some (a, c)) (Some (b, d)) → (a ≡ b) × (c ≡ d)
some_pair_n a b c d e = some_pair_parts a b c d e

scalar_some : (n : ℕ) (x : ℕ × List ℕ) (m k : ℕ) → cond {A = Option (ℕ × ℕ)} (scalar x.0) (Some (x.0, n + 1)) None ≡ Some (m, k) → IsScalar x.0 × (x.0 ≡ m) × (n + 1 ≡ k)
scalar_some n x m k e = let g = cond_is {A = ℕ × ℕ} (scalar x.0) (Some (x.0, n + 1)) (m, k) e in let p = some_pair_n x.0 m (n + 1) k g.1 in (g.0, p.0, p.1)

-- the text after the backslash
pub record TookEscape (Part : List ℕ → ℕ → Type 0) (cs : List ℕ) (m n : ℕ) : Type 0 where
  pub word : List ℕ
  pub rest : List ℕ
  pub parts : cs ≡ word ++ rest
  pub count : length word ≡ n
  pub part : Part (92 ∷ word) m

count_of : (letter n len : ℕ) → len ≡ n → ((letter ≡ 117) × (n ≡ 4)) ⊎ ((letter ≡ 85) × (n ≡ 8)) → ((letter ≡ 117) × (len ≡ 4)) ⊎ ((letter ≡ 85) × (len ≡ 8))
count_of letter n len e (inl h) = inl (h.0, e ∙ h.1)
count_of letter n len e (inr h) = inr (h.0, e ∙ h.1)

pub none_some : {A : Type 0} (x : A) → None ≡ Some x → ⊥
none_some x e = cc

uchar_took : (letter n : ℕ) (cs : List ℕ) (m k : ℕ) → ((letter ≡ 117) × (n ≡ 4)) ⊎ ((letter ≡ 85) × (n ≡ 8)) → (read : Option (ℕ × List ℕ)) → read ≡ hex_at n 0 cs → scalar_of n read ≡ Some (m, k) → TookEscape IsUchar (letter ∷ cs) m k
uchar_took letter n cs m k l None r e = absurd cc
uchar_took letter n cs m k l (Some x) r e =
    let g = scalar_some n x m k e in
    let t = hex_takes n 0 cs x.0 x.1 (sym r) in
    record {
      word = letter ∷ t.digits;
      rest = x.1;
      parts = ap (λ (y : List ℕ). letter ∷ y) t.parts;
      count = omega (arith, t.count, g.2);
      part = record { letter = letter; digits = t.digits; parts = refl; count = count_of letter n (length t.digits) t.count l; hex = t.hex; names = t.worth ∙ g.1; scalar = subst (λ (y : ℕ). IsScalar y) g.1 g.0 };
    }

pub uchar_takes : (cs : List ℕ) (m k : ℕ) → uchar_at cs ≡ Some (m, k) → TookEscape IsUchar cs m k
unfolding uchar_at
uchar_takes [] m k e = absurd cc
uchar_takes (u ∷ cs) m k e =
    elim (which (eqb u 117)) [
      | inl h ↦ uchar_took u 4 cs m k (inl (eqb-true u 117 h, refl)) (hex_at 4 0 cs) refl (rw h at e)
      | inr h ↦ elim (which (eqb u 85)) [
        | inl j ↦ uchar_took u 8 cs m k (inr (eqb-true u 85 j, refl)) (hex_at 8 0 cs) refl (rw (h, j) at e)
        | inr j ↦ absurd (none_some (m, k) (rw (h, j) at e))
      ]
    ]

pub uchar_again : (word : List ℕ) (c : ℕ) (t : List ℕ) → IsUchar (92 ∷ word) c → uchar_at (word ++ t) ≡ Some (c, length word)
unfolding uchar_at
uchar_again word c t h =
    let w : word ≡ h.letter ∷ h.digits = cc in
    let digits : hex_at (length h.digits) 0 (h.digits ++ t) ≡ Some (c, t) = hex_again 0 h.digits t h.hex ∙ ap (λ (x : ℕ). Some (x, t)) h.names in
    elim h.count [
      | inl k ↦ rw (w, k.0, k.1) (scalar_is 4 c c t (hex_at 4 0 (h.digits ++ t)) (rw k.1 at digits) h.scalar refl)
      | inr k ↦ rw (w, k.0, k.1) (scalar_is 8 c c t (hex_at 8 0 (h.digits ++ t)) (rw k.1 at digits) h.scalar refl)
    ]

-- ---- the escapes of each kind of text

iri_keep : (cs : List ℕ) (m n : ℕ) (read : Option (ℕ × ℕ)) → read ≡ uchar_at cs → keep_iri_char read ≡ Some (m, n) → (is_iri_char m ≡ true) × (read ≡ Some (m, n))
iri_keep cs m n None r e = absurd cc
iri_keep cs m n (Some x) r e =
    let g = cond_is {A = ℕ × ℕ} (is_iri_char x.0) (Some x) (m, n) e in
    let same = same_Some x (m, n) g.1 in
    (subst (λ (y : ℕ × ℕ). is_iri_char y.0 ≡ true) same g.0, g.1)

-- the character that an escape of a string denotes
abbrev pub IsEscape : List ℕ → ℕ → Type 0
IsEscape text c = IsEchar text c ⊎ IsUchar text c

string_took : (e : ℕ) (cs : List ℕ) (m n : ℕ) (read : Option ℕ) → read ≡ echar e → or_uchar read (e ∷ cs) ≡ Some (m, n) → TookEscape IsEscape (e ∷ cs) m n
string_took e cs m n None r h =
    let t = uchar_takes (e ∷ cs) m n h in
    record { word = t.word; rest = t.rest; parts = t.parts; count = t.count; part = inr t.part }
string_took e cs m n (Some x) r h =
    let p = some_pair_n x m 1 n h in
    record { word = e ∷ []; rest = cs; parts = refl; count = p.1; part = inl (record { letter = e; parts = refl; names = sym r ∙ ap (λ (y : ℕ). Some y) p.0 }) }

pub string_takes : (cs : List ℕ) (m n : ℕ) → string_escape_at cs ≡ Some (m, n) → TookEscape IsEscape cs m n
unfolding string_escape_at
string_takes [] m n e = absurd cc
string_takes (c ∷ cs) m n e = string_took c cs m n (echar c) refl e

pub escape_takes : (k : Inside) (cs : List ℕ) (m n : ℕ) → escape_at k cs ≡ Some (m, n) → TookEscape (IsPart k) cs m n
unfolding escape_at
escape_takes Iri cs m n e =
    let g = iri_keep cs m n (uchar_at cs) refl e in
    let t = uchar_takes cs m n g.1 in
    record { word = t.word; rest = t.rest; parts = t.parts; count = t.count; part = (g.0, inr t.part) }
escape_takes Quoted cs m n e =
    let t = string_takes cs m n e in
    record { word = t.word; rest = t.rest; parts = t.parts; count = t.count; part = inr t.part }
escape_takes Any cs m n e =
    let t = string_takes cs m n e in
    record { word = t.word; rest = t.rest; parts = t.parts; count = t.count; part = inr t.part }

pub iri_again : (word : List ℕ) (c : ℕ) (t : List ℕ) → is_iri_char c ≡ true → IsUchar (92 ∷ word) c → escape_at Iri (word ++ t) ≡ Some (c, length word)
unfolding escape_at
iri_again word c t h u = rw (uchar_again word c t u, h) refl

-- u and U are not letters of an ECHAR
pub string_again : (word : List ℕ) (c : ℕ) (t : List ℕ) → IsEscape (92 ∷ word) c → string_escape_at (word ++ t) ≡ Some (c, length word)
unfolding string_escape_at
string_again word c t (inr h) =
    let w : word ≡ h.letter ∷ h.digits = cc in
    let read = uchar_again word c t h in
    elim h.count [
      | inl k ↦ rw (w, k.0) (rw (w, k.0) at read)
      | inr k ↦ rw (w, k.0) (rw (w, k.0) at read)
    ]
string_again word c t (inl h) =
    let w : word ≡ h.letter ∷ [] = cc in
    rw w (rw h.names refl)

pub quoted_again : (word : List ℕ) (c : ℕ) (t : List ℕ) → IsEscape (92 ∷ word) c → escape_at Quoted (word ++ t) ≡ Some (c, length word)
unfolding escape_at
quoted_again word c t h = string_again word c t h

pub any_again : (word : List ℕ) (c : ℕ) (t : List ℕ) → IsEscape (92 ∷ word) c → escape_at Any (word ++ t) ≡ Some (c, length word)
unfolding escape_at
any_again word c t h = string_again word c t h
