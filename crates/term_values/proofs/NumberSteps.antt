-- Steps of the functions on digits.
use Rattle.std.proofs.Common.{◌≡◌, ◌≢◌, ℕ, zero, suc, ◌<◌, max, Bool, true, false, ◌&&◌, ◌==◌, List, [], ◌∷◌, ◌++◌, length, get_or, drop, refl, arith, rules, if◌then◌else◌}
use Rattle.std.proofs.Math.Seq.{drop-nil}
use Rattle.std.proofs.lemmas.List.Folds.{list_all-append}
use Rattle.std.specs.Char.{is_ascii_digit}
use Rattle.std.specs.List.{list_all}
use Rattle.std.specs.Ordering.{nat_cmp, ordering_then, is_ne}
use Rattle.std.specs.declared.cmp.Ordering.{Ordering}
use Rattle.std.specs.declared.cmp.Ordering.TheVariants.{Less, Equal, Greater}
use Rattle.algebra_model.specs.Number.{is_numeral}
use Rattle.term_values.specs.Digits.{fraction_order, without_leading_zeros}

pub fraction_step : (f g : List ℕ) (i : ℕ) → i < max (length f) (length g)
    → fraction_order (drop i f) (drop i g)
    ≡ ordering_then (nat_cmp (get_or f i 48) (get_or g i 48)) (fraction_order (drop (suc i) f) (drop (suc i) g))
fraction_step [] [] i h = absurd (omega arith)
fraction_step [] (d ∷ ds) zero h = refl
fraction_step [] (d ∷ ds) (suc i) h = rw drop-nil at (fraction_step [] ds i (omega arith))
fraction_step (c ∷ cs) [] zero h = refl
fraction_step (c ∷ cs) [] (suc i) h = rw drop-nil at (fraction_step cs [] i (omega arith))
fraction_step (c ∷ cs) (d ∷ ds) zero h = refl
fraction_step (c ∷ cs) (d ∷ ds) (suc i) h = fraction_step cs ds i (omega arith)

pub then_decided : (o r : Ordering) → is_ne o ≡ true → o ≡ ordering_then o r
then_decided Less r h = refl
then_decided Equal r h = cc
then_decided Greater r h = refl

pub then_equal : (o r : Ordering) → is_ne o ≡ false → ordering_then o r ≡ r
then_equal Less r h = cc
then_equal Equal r h = refl
then_equal Greater r h = cc

pub empty_numeral : (v f : List ℕ) → length v ≡ 0 → length f ≡ 0 → is_numeral (v ++ f) ≡ false
empty_numeral [] [] p q = refl
empty_numeral [] (d ∷ ds) p q = absurd (omega arith)
empty_numeral (c ∷ cs) f p q = absurd (omega arith)

pub fraction_numeral : (v f : List ℕ) → length v ≡ 0 → length f ≢ 0 → is_numeral (v ++ f) ≡ list_all is_ascii_digit f
fraction_numeral [] [] p n = absurd (n refl)
fraction_numeral [] (d ∷ ds) p n = refl
fraction_numeral (c ∷ cs) f p n = absurd (omega arith)

whole_numeral : (v f : List ℕ) → (length v == 0) ≡ false
    → is_numeral (v ++ f) ≡ (list_all is_ascii_digit v && list_all is_ascii_digit f)
whole_numeral [] f n = cc
whole_numeral (c ∷ cs) f n = list_all-append is_ascii_digit (c ∷ cs) f

pub whole_is_numeral : (v f : List ℕ) → (length v == 0) ≡ false → list_all is_ascii_digit v ≡ true
    → is_numeral (v ++ f) ≡ list_all is_ascii_digit f
whole_is_numeral v f n h = rw h at (whole_numeral v f n)

pub whole_is_not : (v f : List ℕ) → (length v == 0) ≡ false → list_all is_ascii_digit v ≡ false
    → is_numeral (v ++ f) ≡ false
whole_is_not v f n h = rw h at (whole_numeral v f n)

pub is_numeral-digits : (text : List ℕ) → is_numeral text ≡ true → list_all is_ascii_digit text ≡ true
is_numeral-digits [] h = refl
is_numeral-digits (c ∷ cs) h = h

-- nothing is left of digits without leading zeros exactly if all of them are zeros
pub no_digit_left : (ds : List ℕ) → (length (without_leading_zeros ds) == 0) ≡ list_all (λ c. c == 48) ds
no_digit_left [] = refl
no_digit_left (c ∷ cs) = by (c == 48) (no_digit_left cs)
  where
    by : (b : Bool) → (length (without_leading_zeros cs) == 0) ≡ list_all (λ d. d == 48) cs
        → (length (if b then without_leading_zeros cs else c ∷ cs) == 0) ≡ (b && list_all (λ d. d == 48) cs)
    by true h = h
    by false h = search rules
