use Rattle.std.proofs.Common.{◌≡◌, ℕ, ◌+◌, ◌*◌, true, sym, subst, inl, inr, rules}
use Rattle.std.specs.Char.{digit_value}
use Rattle.rdf_core.specs.Characters.{is_hex}
use Rattle.line_diagnosis.specs.Rest.{is_head}
use Rattle.line_diagnosis.specs.Says.{SaysOfDigits, scalars}
use Rattle.line_diagnosis.proofs.SaysLaws.{large, surrogate, very_large}
use Rattle.line_diagnosis.proofs.DigitLaws.{above_none}
use Rattle.line_diagnosis.proofs.escapes.step_digits.Goals as goal

pub returns-then-digits-gt1114111-clause-digit : goal.returns-then-digits-gt1114111-clause-digit
returns-then-digits-gt1114111-clause-digit c =
    λ x h. above_none c.args.ranges.now c.args.digits.more c.args.digits.value (digit_value c.args.c) c.requires c.if-digits-gt1114111.true h

pub returns-then-digits-gt1114111-clause-says : goal.returns-then-digits-gt1114111-clause-says
returns-then-digits-gt1114111-clause-says c = very_large c.args.digits c.args.c c.if-digits-gt1114111.true

pub returns-else-is_head-clause-says : goal.returns-else-is_head-clause-says
returns-else-is_head-clause-says c =
    let v : ℕ = c.args.digits.value * 16 + c.from.result in
    let same : v ≡ c.args.digits.value * 16 + digit_value c.args.c = search rules in
    let hex : is_hex c.args.c ≡ true = search rules in
    let says = SaysOfDigits c.args.digits c.args.c in
    elim c.reason_of.ensures.known [
      | inl e ↦ subst says (sym e) (large c.args.digits c.args.c v same (c.reason_of.ensures.large e))
      | inr other ↦ elim other [
        | inl e ↦ let s = c.reason_of.ensures.surrogate e in subst says (sym e) (surrogate c.args.digits c.args.c v same s.0 s.1)
        | inr e ↦ subst says (sym e) (hex, subst (λ (x : ℕ). is_head scalars c.args.digits.more x ≡ true) same (c.reason_of.ensures.escape e))
      ]
    ]
