-- The number of an option, as its text is parsed.
use Rattle.std.proofs.Common.{◌≡◌, ◌<◌, ◌^◌, ℕ, ◌≤◌, Option, Some, None, Err, refl, sym, subst}
use Rattle.std.specs.Str.Parse.{IsNumeral, ParsesUnsigned, digits_value, without_leading_plus}
use Rattle.clap.specs.Words.{Text}
use Rattle.spq_command.specs.Program.{IsNumber}

pub not_given : (o : Option Text) (default most : ℕ) → ((t : Text) → o ≡ Some t → ⊥) → IsNumber default most o default
not_given None default most h = refl
not_given (Some t) default most h = absurd (h t refl)

-- the text is a numeral of the number
abbrev pub IsParsed : Text → ℕ → Type 0
IsParsed text n = (IsNumeral 10 (without_leading_plus text) × (digits_value 10 (without_leading_plus text) < 2 ^ 64))
    × (n ≡ digits_value 10 (without_leading_plus text))

pub given : (o : Option Text) (default most n : ℕ) → (o ≡ None → ⊥)
    → ((t : Text) → o ≡ Some t → IsParsed t n) → 1 ≤ n → n ≤ most → IsNumber default most o n
given None default most n some reads low high = absurd (some refl)
given (Some t) default most n some reads low high =
    let p = reads t refl in
    ((p.0.0, p.0.1, subst (λ (v : ℕ). 1 ≤ v) p.1 low, subst (λ (v : ℕ). v ≤ most) p.1 high), p.1)

pub outside : (o : Option Text) (default most n : ℕ) → (o ≡ None → ⊥)
    → ((t : Text) → o ≡ Some t → IsParsed t n) → (1 ≤ n → n ≤ most → ⊥)
    → (m : ℕ) → IsNumber default most o m → ⊥
outside None default most n some reads out m is = some refl
outside (Some t) default most n some reads out m is =
    let p = reads t refl in
    out (subst (λ (v : ℕ). 1 ≤ v) (sym p.1) is.0.2) (subst (λ (v : ℕ). v ≤ most) (sym p.1) is.0.3)

pub unread : (E : Type 0) (o : Option Text) (default most : ℕ) (e : E) → (o ≡ None → ⊥)
    → ((t : Text) → o ≡ Some t → ParsesUnsigned 64 10 t (Err e)) → (m : ℕ) → IsNumber default most o m → ⊥
unread E None default most e some reads m is = some refl
unread E (Some t) default most e some reads m is = reads t refl (is.0.0, is.0.1)
