use Rattle.std.proofs.Common.{◌≡◌, ℕ, true, refl, inl, inr, rules}
use Rattle.nquads_core.specs.Terminal.{is_blank}
use Rattle.line_diagnosis.specs.Rest.{Accepts, IsStep}
use Rattle.line_diagnosis.specs.Turn.{suffix}
use Rattle.line_diagnosis.specs.declared.state.State.TheVariants as state
use Rattle.line_diagnosis.proofs.TurnLaws.{blank_back, blank_forth, carets_open, tag_opens}
use Rattle.line_diagnosis.proofs.LabelSteps.{at_char}
use Rattle.line_diagnosis.proofs.OpenLaws.{suffix_goes}
use Rattle.line_diagnosis.proofs.between.step_after_string.Goals as goal

pub returns-in-94-clause-steps : goal.returns-in-94-clause-steps
returns-in-94-clause-steps c = at_char (Accepts state.AfterString) c.args.c 94 state.Caret c.in-94.is carets_open

pub returns-in-64-clause-steps : goal.returns-in-64-clause-steps
returns-in-64-clause-steps c = at_char (Accepts state.AfterString) c.args.c 64 state.At c.in-64.is tag_opens

blank_goes : (c : ℕ) → is_blank c ≡ true → IsStep (Accepts state.AfterString) c state.AfterString
blank_goes c h = record { forth = λ cs m. blank_forth suffix c cs h m; back = λ cs m. blank_back suffix c cs h m; can_end = tt }

pub returns-in-32-clause-steps : goal.returns-in-32-clause-steps
returns-in-32-clause-steps c = blank_goes c.args.c (elim c.in-32.is [ inl e ↦ rw e refl | inr e ↦ rw e refl ])

pub returns-in_default-clause-steps : goal.returns-in_default-clause-steps
returns-in_default-clause-steps c = suffix_goes c.args.c c.step_between.result (search rules) (search rules) (search rules) (search rules) c.step_between.ensures.steps
