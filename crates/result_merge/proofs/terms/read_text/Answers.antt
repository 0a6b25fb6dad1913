use Rattle.std.proofs.Common.{◌++◌, ◌∙◌, ap}
use Rattle.result_merge.specs.Absent.{IsNoText}
use Rattle.result_merge.proofs.FaultSteps.{on_fault}
use Rattle.result_merge.proofs.TermSteps.{no_text}
use Rattle.result_merge.proofs.terms.read_text.Goals as goal

pub returns-clause-parts : goal.returns-clause-parts
returns-clause-parts c = c.in_ok-rest.ensures.parts ∙ ap (λ r. c.args.before.now ++ r) c.in_ok-text.ensures.parts

pub returns-in_err-text-clause-damaged : goal.returns-in_err-text-clause-damaged
returns-in_err-text-clause-damaged c =
    on_fault c.from_residual-in_err-text.result c.in_err-text.field-0.0 (IsNoText c.args.before.now c.args.bytes.now) c.from_residual-in_err-text.ensures.1
    (λ damaged. no_text c.args.before.now c.args.bytes.now c.in_ok-rest.rest.now c.in_ok-rest.ensures.parts (c.in_err-text.ensures.damaged damaged))
