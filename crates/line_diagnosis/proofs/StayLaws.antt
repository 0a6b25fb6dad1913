-- Characters that leave the reader in its state.
use Rattle.std.proofs.Common.{◌≡◌, ◌≢◌, ℕ, true, false, refl, sym, ap, subst, ◌∙◌, arith}
use Rattle.std.proofs.lemmas.Bool.Decides.{nat_tests}
use lib.Utf8.{scalar}
use Rattle.rdf_core.specs.Characters.{is_iri_char, is_string_char}
use Rattle.rdf_core.proofs.EscapeLaws.{and_is}
use Rattle.line_diagnosis.specs.declared.state.Part.{Part}
use Rattle.line_diagnosis.specs.declared.state.Scheme.{Scheme}
use Rattle.line_diagnosis.specs.declared.state.Scheme.TheVariants as scheme
use Rattle.line_diagnosis.specs.declared.state.State.{State}
use Rattle.line_diagnosis.specs.declared.state.State.TheVariants as state
use Rattle.line_diagnosis.specs.Rest.{Accepts, IsStep}
use Rattle.line_diagnosis.specs.StateAfter.{is_line_break}
use Rattle.line_diagnosis.proofs.IriSteps.{iri_goes}
use Rattle.line_diagnosis.proofs.StringSteps.{string_goes}

-- no line break, and the same state after the character
abbrev pub Stays : State → ℕ → Type 0
Stays s c = (is_line_break c ≡ false) × IsStep (Accepts s) c s

iri_plain : (c : ℕ) → is_iri_char c ≡ true → is_line_break c ≡ false
iri_plain c h = grind (arith, nat_tests)

string_plain : (c : ℕ) → is_string_char c ≡ true → is_line_break c ≡ false
string_plain c h = grind (arith, nat_tests)

other_char : (c x : ℕ) → is_string_char x ≡ false → is_string_char c ≡ true → c ≢ x
other_char c x n h e = let no : ⊥ = cc (sym n ∙ ap is_string_char (sym e) ∙ h) in no

in_iri : (p : Part) (c : ℕ) → scalar c ≡ true → is_iri_char c ≡ true → Stays (state.Iri p scheme.Read) c
in_iri p c u h = (iri_plain c h, iri_goes p scheme.Read scheme.Read c (and_is (is_iri_char c) (scalar c) h u) (λ cs. refl))

in_string : (c : ℕ) → is_string_char c ≡ true → Stays state.String c
in_string c h = (string_plain c h, string_goes c (other_char c 34 refl h) (other_char c 92 refl h) (other_char c 10 refl h) (other_char c 13 refl h))

pub in_iri_at : (s : State) (p : Part) (t : Scheme) (c : ℕ) → s ≡ state.Iri p t → t ≡ scheme.Read → scalar c ≡ true → is_iri_char c ≡ true → Stays s c
in_iri_at s p t c e r u h = subst (λ (x : State). Stays x c) (sym (e ∙ ap (state.Iri p) r)) (in_iri p c u h)

pub in_string_at : (s : State) (c : ℕ) → s ≡ state.String → is_string_char c ≡ true → Stays s c
in_string_at s c e h = subst (λ (x : State). Stays x c) (sym e) (in_string c h)
