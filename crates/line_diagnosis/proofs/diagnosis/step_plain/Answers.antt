use Rattle.std.proofs.Common.{◌≡◌, ◌∙◌, ℕ, Result, sym, subst}
use Rattle.line_diagnosis.specs.Rest.{Accepts}
use Rattle.line_diagnosis.specs.Says.{Explains}
use Rattle.line_diagnosis.specs.declared.reason.Reason.{Reason}
use Rattle.line_diagnosis.specs.declared.state.State.{State}
use Rattle.line_diagnosis.specs.declared.state.State.TheVariants as state
use Rattle.line_diagnosis.proofs.LabelSteps.{at_state, expected, start_step, start_stuck}
use Rattle.line_diagnosis.proofs.TagSteps.{at_step, at_stuck, hyphen_step, hyphen_stuck}
use Rattle.line_diagnosis.proofs.diagnosis.step_plain.Goals as goal

-- what the step of a state says, of an equal state
says_at : (s t : State) (c : ℕ) (r : Result State Reason) → s ≡ t → Explains t c r → Explains s c r
says_at s t c r e h = subst (λ (x : State). Explains x c r) (sym e) h

pub returns-in-Between-clause-steps : goal.returns-in-Between-clause-steps
returns-in-Between-clause-steps c = at_state c.args.state (state.Between c.in-Between.next) c.args.c c.step_between.result c.in-Between.is c.step_between.ensures.steps

pub returns-in-AfterString-clause-steps : goal.returns-in-AfterString-clause-steps
returns-in-AfterString-clause-steps c = at_state c.args.state state.AfterString c.args.c c.step_after_string.result c.in-AfterString.is c.step_after_string.ensures.steps

pub returns-in-AfterString-clause-says : goal.returns-in-AfterString-clause-says
returns-in-AfterString-clause-says c = says_at c.args.state state.AfterString c.args.c c.step_after_string.result c.in-AfterString.is c.step_after_string.ensures.says

pub returns-in-Iri-clause-steps : goal.returns-in-Iri-clause-steps
returns-in-Iri-clause-steps c = at_state c.args.state (state.Iri c.in-Iri.part c.in-Iri.scheme) c.args.c c.step_iri.result c.in-Iri.is c.step_iri.ensures.steps

pub returns-in-Iri-clause-says : goal.returns-in-Iri-clause-says
returns-in-Iri-clause-says c = says_at c.args.state (state.Iri c.in-Iri.part c.in-Iri.scheme) c.args.c c.step_iri.result c.in-Iri.is c.step_iri.ensures.says

pub returns-in-IriBackslash-clause-steps : goal.returns-in-IriBackslash-clause-steps
returns-in-IriBackslash-clause-steps c = at_state c.args.state (state.IriBackslash c.in-IriBackslash.part c.in-IriBackslash.scheme) c.args.c c.step_backslash.result c.in-IriBackslash.is c.step_backslash.ensures.steps

pub returns-in-IriBackslash-clause-says : goal.returns-in-IriBackslash-clause-says
returns-in-IriBackslash-clause-says c = says_at c.args.state (state.IriBackslash c.in-IriBackslash.part c.in-IriBackslash.scheme) c.args.c c.step_backslash.result c.in-IriBackslash.is c.step_backslash.ensures.says

pub returns-in-IriDigits-clause-steps : goal.returns-in-IriDigits-clause-steps
returns-in-IriDigits-clause-steps c = at_state c.args.state (state.IriDigits c.in-IriDigits.part c.in-IriDigits.scheme c.in-IriDigits.digits) c.args.c c.step_escape.result c.in-IriDigits.is c.step_escape.ensures.steps

pub returns-in-IriDigits-clause-says : goal.returns-in-IriDigits-clause-says
returns-in-IriDigits-clause-says c = says_at c.args.state (state.IriDigits c.in-IriDigits.part c.in-IriDigits.scheme c.in-IriDigits.digits) c.args.c c.step_escape.result c.in-IriDigits.is c.step_escape.ensures.says

pub returns-in-String-clause-steps : goal.returns-in-String-clause-steps
returns-in-String-clause-steps c = at_state c.args.state state.String c.args.c c.step_string.result c.in-String.is c.step_string.ensures.steps

pub returns-in-String-clause-says : goal.returns-in-String-clause-says
returns-in-String-clause-says c = says_at c.args.state state.String c.args.c c.step_string.result c.in-String.is c.step_string.ensures.says

pub returns-in-StringBackslash-clause-steps : goal.returns-in-StringBackslash-clause-steps
returns-in-StringBackslash-clause-steps c = at_state c.args.state state.StringBackslash c.args.c c.step_string_backslash.result c.in-StringBackslash.is c.step_string_backslash.ensures.steps

pub returns-in-StringBackslash-clause-says : goal.returns-in-StringBackslash-clause-says
returns-in-StringBackslash-clause-says c = says_at c.args.state state.StringBackslash c.args.c c.step_string_backslash.result c.in-StringBackslash.is c.step_string_backslash.ensures.says

pub returns-in-StringDigits-clause-steps : goal.returns-in-StringDigits-clause-steps
returns-in-StringDigits-clause-steps c = at_state c.args.state (state.StringDigits c.in-StringDigits.digits) c.args.c c.step_string_escape.result c.in-StringDigits.is c.step_string_escape.ensures.steps

pub returns-in-StringDigits-clause-says : goal.returns-in-StringDigits-clause-says
returns-in-StringDigits-clause-says c = says_at c.args.state (state.StringDigits c.in-StringDigits.digits) c.args.c c.step_string_escape.result c.in-StringDigits.is c.step_string_escape.ensures.says

pub returns-in-Tag-clause-steps : goal.returns-in-Tag-clause-steps
returns-in-Tag-clause-steps c = at_state c.args.state state.Tag c.args.c c.step_tag.result c.in-Tag.is c.step_tag.ensures.steps

pub returns-in-Tag-clause-says : goal.returns-in-Tag-clause-says
returns-in-Tag-clause-says c = says_at c.args.state state.Tag c.args.c c.step_tag.result c.in-Tag.is c.step_tag.ensures.says

pub returns-in-Subtag-clause-steps : goal.returns-in-Subtag-clause-steps
returns-in-Subtag-clause-steps c = at_state c.args.state state.Subtag c.args.c c.step_subtag.result c.in-Subtag.is c.step_subtag.ensures.steps

pub returns-in-Subtag-clause-says : goal.returns-in-Subtag-clause-says
returns-in-Subtag-clause-says c = says_at c.args.state state.Subtag c.args.c c.step_subtag.result c.in-Subtag.is c.step_subtag.ensures.says

pub returns-in-Label-clause-steps : goal.returns-in-Label-clause-steps
returns-in-Label-clause-steps c = at_state c.args.state (state.Label c.in-Label.part) c.args.c c.step_label.result c.in-Label.is c.step_label.ensures.steps

pub returns-in-Label-clause-says : goal.returns-in-Label-clause-says
returns-in-Label-clause-says c = says_at c.args.state (state.Label c.in-Label.part) c.args.c c.step_label.result c.in-Label.is c.step_label.ensures.says

pub returns-in-LabelDot-clause-steps : goal.returns-in-LabelDot-clause-steps
returns-in-LabelDot-clause-steps c = at_state c.args.state (state.LabelDot c.in-LabelDot.part) c.args.c c.step_label_dot.result c.in-LabelDot.is c.step_label_dot.ensures.steps

pub returns-in-LabelDot-clause-says : goal.returns-in-LabelDot-clause-says
returns-in-LabelDot-clause-says c = says_at c.args.state (state.LabelDot c.in-LabelDot.part) c.args.c c.step_label_dot.result c.in-LabelDot.is c.step_label_dot.ensures.says

pub returns-in-LabelDots-clause-steps : goal.returns-in-LabelDots-clause-steps
returns-in-LabelDots-clause-steps c = at_state c.args.state (state.LabelDots c.in-LabelDots.part) c.args.c c.step_label_dots.result c.in-LabelDots.is c.step_label_dots.ensures.steps

pub returns-in-LabelDots-clause-says : goal.returns-in-LabelDots-clause-says
returns-in-LabelDots-clause-says c = says_at c.args.state (state.LabelDots c.in-LabelDots.part) c.args.c c.step_label_dots.result c.in-LabelDots.is c.step_label_dots.ensures.says

pub returns-in-At-clause-steps : goal.returns-in-At-clause-steps
returns-in-At-clause-steps c =
    let e = c.is_ascii_alphabetic.ensures.value in
    at_state c.args.state state.At c.args.c c.expect-in-At.result c.in-At.is
    (expected (Accepts state.At) c.args.c c.is_ascii_alphabetic.result state.Tag c.expect-in-At.result c.expect-in-At.ensures.allowed (λ h. at_step c.args.c (sym e ∙ h)) (λ h. at_stuck c.args.c (sym e ∙ h)))

pub returns-in-Hyphen-clause-steps : goal.returns-in-Hyphen-clause-steps
returns-in-Hyphen-clause-steps c =
    let e = c.is_ascii_alphanumeric.ensures.value in
    at_state c.args.state state.Hyphen c.args.c c.expect-in-Hyphen.result c.in-Hyphen.is
    (expected (Accepts state.Hyphen) c.args.c c.is_ascii_alphanumeric.result state.Subtag c.expect-in-Hyphen.result c.expect-in-Hyphen.ensures.allowed (λ h. hyphen_step c.args.c (sym e ∙ h)) (λ h. hyphen_stuck c.args.c (sym e ∙ h)))

pub returns-in-LabelStart-clause-steps : goal.returns-in-LabelStart-clause-steps
returns-in-LabelStart-clause-steps c =
    let e = c.is_label_start.ensures.value in
    let p = c.in-LabelStart.part in
    at_state c.args.state (state.LabelStart p) c.args.c c.expect-in-LabelStart.result c.in-LabelStart.is
    (expected (Accepts (state.LabelStart p)) c.args.c c.is_label_start.result (state.Label p) c.expect-in-LabelStart.result c.expect-in-LabelStart.ensures.allowed (λ h. start_step p c.args.c (sym e ∙ h)) (λ h. start_stuck p c.args.c (sym e ∙ h)))
