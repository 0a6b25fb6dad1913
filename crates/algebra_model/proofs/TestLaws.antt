-- Tests on Bools and on optional terms.
use Rattle.std.proofs.Common.{◌≡◌, ℕ, zero, suc, Bool, true, false, ◌&&◌, ◌||◌, ◌==◌, Option, None, Some, Decides, refl, sym, ap, ◌∙◌}
use Rattle.std.proofs.lemmas.Bool.{false≢true}
use Rattle.std.specs.Option.{option_eq}
use lib.Dec.{eqb-zero-suc, eqb-suc-zero, eqb-suc-suc}

pub and_swap : (a b c : Bool) → (a && (b && c)) ≡ (b && (a && c))
and_swap true b c = refl
and_swap false true c = refl
and_swap false false c = refl

pub and_assoc : (a b c : Bool) → ((a && b) && c) ≡ (a && (b && c))
and_assoc true b c = refl
and_assoc false b c = refl

pub and_false : (a : Bool) → (a && false) ≡ false
and_false true = refl
and_false false = refl

pub and_itself : (a b : Bool) → (a && b) ≡ (a && (a && b))
and_itself true b = refl
and_itself false b = refl

pub or_assoc : (a b c : Bool) → (a || (b || c)) ≡ ((a || b) || c)
or_assoc true b c = refl
or_assoc false b c = refl

-- k and j are equal, by recursion
abbrev pub at : ℕ → ℕ → Bool
at zero zero = true
at zero (suc j) = false
at (suc k) zero = false
at (suc k) (suc j) = at k j

module _ {T : Type 0} (same : T → T → Bool) (decides : (x y : T) → Decides (same x y) (x ≡ y)) where
  pub option_decides : (x y : Option T) → Decides (option_eq same x y) (x ≡ y)
  option_decides None None = (λ _. refl, λ _. refl)
  option_decides None (Some y) = (λ e. absurd (false≢true e), λ e. cc)
  option_decides (Some x) None = (λ e. absurd (false≢true e), λ e. cc)
  option_decides (Some x) (Some y) = (λ e. ap Some ((decides x y).0 e), λ e. (decides x y).1 cc)

pub at-eqb : (k j : ℕ) → at k j ≡ (k == j)
at-eqb zero zero = refl
at-eqb zero (suc j) = sym (eqb-zero-suc j)
at-eqb (suc k) zero = sym (eqb-suc-zero k)
at-eqb (suc k) (suc j) = at-eqb k j ∙ sym (eqb-suc-suc k j)
