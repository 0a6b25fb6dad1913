use Rattle.std.proofs.Common.{◌≡◌, suc, ◌-◌, refl, arith}
use Rattle.line_diagnosis.specs.declared.state.Digits.{Digits}
use Rattle.line_diagnosis.specs.Rest.{Accepts}
use Rattle.line_diagnosis.specs.declared.state.State.TheVariants as state
use Rattle.line_diagnosis.proofs.LabelSteps.{err_steps}
use Rattle.line_diagnosis.proofs.IriSteps.{iri_digit, iri_last_digit, iri_no_digit}
use Rattle.std.proofs.lemmas.Result.{err_from_is_err_and}
use Rattle.line_diagnosis.proofs.SaysLaws.{digits_in_iri}
use Rattle.line_diagnosis.proofs.iris.step_escape.Goals as goal

pub returns-in_err-value-clause-steps : goal.returns-in_err-value-clause-steps
returns-in_err-value-clause-steps c =
    err_steps (Accepts (state.IriDigits c.args.part c.args.scheme c.args.digits)) c.args.c c.from_residual.result c.from_residual.ensures.0
    (iri_no_digit c.args.part c.args.scheme c.iri_ranges.result.now c.args.digits c.args.c c.iri_ranges.ensures.ranges c.in_err-value.ensures.digit)

pub returns-then-digits-eq0-clause-steps : goal.returns-then-digits-eq0-clause-steps
returns-then-digits-eq0-clause-steps c =
    let v = c.in_ok-value.ensures.digit in
    iri_last_digit c.args.part c.args.scheme c.scheme_after.result c.iri_ranges.result.now c.args.digits c.args.c c.in_ok-value.value
    c.iri_ranges.ensures.ranges v.0 v.1 v.2 c.if-digits-eq0.true c.scheme_after.ensures

pub returns-clause-steps : goal.returns-clause-steps
returns-clause-steps c =
    let v = c.in_ok-value.ensures.digit in
    let e : Digits = record { value = c.in_ok-value.value; more = c.args.digits.more - 1 } in
    let n : suc (c.args.digits.more - 1) ≡ c.args.digits.more = omega (arith, c.if-digits-eq0.false) in
    iri_digit c.args.part c.args.scheme c.iri_ranges.result.now c.args.digits e c.args.c c.in_ok-value.value c.iri_ranges.ensures.ranges v.0 v.1 v.2 (refl, n)

pub returns-in_err-value-clause-says : goal.returns-in_err-value-clause-says
returns-in_err-value-clause-says c =
    let p = err_from_is_err_and c.from_residual.result c.from_residual.ensures.1 in
    rw (p.1, p.2) (digits_in_iri c.args.part c.args.scheme c.args.digits c.args.c _ c.in_err-value.ensures.says)
