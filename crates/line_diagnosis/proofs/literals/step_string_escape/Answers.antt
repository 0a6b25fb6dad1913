use Rattle.std.proofs.Common.{◌≡◌, suc, ◌-◌, refl, arith}
use Rattle.line_diagnosis.specs.declared.state.Digits.{Digits}
use Rattle.line_diagnosis.specs.Rest.{Accepts}
use Rattle.line_diagnosis.specs.declared.state.State.TheVariants as state
use Rattle.line_diagnosis.proofs.LabelSteps.{err_steps}
use Rattle.line_diagnosis.proofs.RangeLaws.{scalar_list, scalar_ranges}
use Rattle.line_diagnosis.proofs.StringSteps.{string_digit, string_last_digit, string_no_digit}
use Rattle.std.proofs.lemmas.Result.{err_from_is_err_and}
use Rattle.line_diagnosis.proofs.SaysLaws.{digits_in_string}
use Rattle.line_diagnosis.proofs.literals.step_string_escape.Goals as goal

pub returns-in_err-value-clause-steps : goal.returns-in_err-value-clause-steps
returns-in_err-value-clause-steps c =
    err_steps (Accepts (state.StringDigits c.args.digits)) c.args.c c.from_residual.result c.from_residual.ensures.0
    (string_no_digit scalar_list c.args.digits c.args.c scalar_ranges c.in_err-value.ensures.digit)

pub returns-then-digits-eq0-clause-steps : goal.returns-then-digits-eq0-clause-steps
returns-then-digits-eq0-clause-steps c =
    let v = c.in_ok-value.ensures.digit in
    string_last_digit scalar_list c.args.digits c.args.c c.in_ok-value.value scalar_ranges v.0 v.1 v.2 c.if-digits-eq0.true

pub returns-clause-steps : goal.returns-clause-steps
returns-clause-steps c =
    let v = c.in_ok-value.ensures.digit in
    let e : Digits = record { value = c.in_ok-value.value; more = c.args.digits.more - 1 } in
    let n : suc (c.args.digits.more - 1) ≡ c.args.digits.more = omega (arith, c.if-digits-eq0.false) in
    string_digit scalar_list c.args.digits e c.args.c c.in_ok-value.value scalar_ranges v.0 v.1 v.2 (refl, n)

pub returns-in_err-value-clause-says : goal.returns-in_err-value-clause-says
returns-in_err-value-clause-says c =
    let p = err_from_is_err_and c.from_residual.result c.from_residual.ensures.1 in
    rw (p.1, p.2) (digits_in_string c.args.digits c.args.c _ c.in_err-value.ensures.digit c.in_err-value.ensures.says)
