-- The letter of an escape.
use Rattle.std.proofs.Common.{◌≡◌, ◌≢◌, ℕ, suc, ◌+◌, Bool, true, List, ◌∷◌, Option, Some, None, refl, sym, ap, subst, ◌∙◌, inl, inr, ◌⊎◌, arith}
use Rattle.std.proofs.lemmas.Bool.{ne_eqb}
use Rattle.std.proofs.lemmas.Option.{some_pair_parts, same_Some}
use lib.Utf8.{scalar}
use Rattle.rdf_core.specs.Characters.{is_iri_char}
use Rattle.rdf_core.specs.LexicalReading.{hex_at, keep_iri_char, scalar_of, uchar_at}
use Rattle.rdf_core.proofs.EscapeSteps.{cond_is}
use Rattle.rdf_core.proofs.EscapeLaws.{none_some}
use Rattle.line_diagnosis.specs.declared.state.Digits.{Digits}
use Rattle.line_diagnosis.specs.Rest.{CanDenote, RestOfDigits}

-- no digits are read after this letter, and as many follow as it says
abbrev pub IsOpened : ℕ → Digits → Type 0
IsOpened letter d = (d.value ≡ 0) × (((letter ≡ 117) × (d.more ≡ 3)) ⊎ ((letter ≡ 85) × (d.more ≡ 7)))

uchar_small : (cs : List ℕ) → uchar_at (117 ∷ cs) ≡ scalar_of 4 (hex_at 4 0 cs)
unfolding uchar_at
uchar_small cs = refl

uchar_large : (cs : List ℕ) → uchar_at (85 ∷ cs) ≡ scalar_of 8 (hex_at 8 0 cs)
unfolding uchar_at
uchar_large cs = refl

pub uchar_opened : (letter : ℕ) (d : Digits) (cs : List ℕ) → IsOpened letter d → uchar_at (letter ∷ cs) ≡ scalar_of (suc d.more) (hex_at (suc d.more) d.value cs)
uchar_opened letter d cs h = elim h.1 [
  | inl k ↦ rw (k.0, k.1, h.0) (uchar_small cs)
  | inr k ↦ rw (k.0, k.1, h.0) (uchar_large cs)
]

pub uchar_other : (letter : ℕ) (cs : List ℕ) → letter ≢ 117 → letter ≢ 85 → uchar_at (letter ∷ cs) ≡ None
unfolding uchar_at
uchar_other letter cs a b = rw (ne_eqb letter 117 a, ne_eqb letter 85 b) refl

scalar_parts : (n : ℕ) (read : Option (ℕ × List ℕ)) (c size : ℕ) → scalar_of n read ≡ Some (c, size) → (left : List ℕ) × (read ≡ Some (c, left)) × (scalar c ≡ true) × (n + 1 ≡ size)
scalar_parts n None c size e = absurd (none_some (c, size) e)
scalar_parts n (Some x) c size e =
    let g = cond_is {A = ℕ × ℕ} (scalar x.0) (Some (x.0, n + 1)) (c, size) e in
    let p = some_pair_parts x.0 c (n + 1) size g.1 in
    (x.1, ap (λ (y : ℕ). Some (y, x.1)) p.0, ap scalar (sym p.0) ∙ g.0, p.1)

pub uchar_forth : (letter : ℕ) (d : Digits) (cs : List ℕ) (c size : ℕ) → IsOpened letter d → uchar_at (letter ∷ cs) ≡ Some (c, size) → RestOfDigits d c cs × (size ≡ suc (suc d.more))
uchar_forth letter d cs c size o e =
    let p = scalar_parts (suc d.more) (hex_at (suc d.more) d.value cs) c size (sym (uchar_opened letter d cs o) ∙ e) in
    (record { left = p.0; digits = p.1; scalar = p.2 }, omega (arith, p.3))

pub uchar_back : (letter : ℕ) (d : Digits) (cs : List ℕ) (c : ℕ) → IsOpened letter d → RestOfDigits d c cs → uchar_at (letter ∷ cs) ≡ Some (c, suc d.more + 1)
uchar_back letter d cs c o h = uchar_opened letter d cs o ∙ rw (h.digits, h.scalar) refl

pub keep_parts : (read : Option (ℕ × ℕ)) (c size : ℕ) → keep_iri_char read ≡ Some (c, size) → (is_iri_char c ≡ true) × (read ≡ Some (c, size))
keep_parts None c size e = absurd (none_some (c, size) e)
keep_parts (Some x) c size e =
    let g = cond_is {A = ℕ × ℕ} (is_iri_char x.0) (Some x) (c, size) e in
    let same = same_Some x (c, size) g.1 in
    (subst (λ (y : ℕ × ℕ). is_iri_char y.0 ≡ true) same g.0, g.1)

-- any letter of ASCII can follow, as a
pub opened_can : (test : ℕ → Bool) (letter : ℕ) (d : Digits) → test 97 ≡ true → IsOpened letter d → CanDenote test d
opened_can test letter d t h = record {
  c = 97;
  allowed = t;
  begins = elim h.1 [
    | inl k ↦ rw (k.1, h.0) refl
    | inr k ↦ rw (k.1, h.0) refl
  ];
}
