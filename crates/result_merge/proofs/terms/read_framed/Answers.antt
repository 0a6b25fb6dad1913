use Rattle.result_merge.specs.Absent.{IsNoFramed}
use Rattle.result_merge.proofs.FaultSteps.{on_error}
use Rattle.result_merge.proofs.TermSteps.{no_end}
use Rattle.result_merge.proofs.terms.read_framed.Goals as goal

pub returns-in_err-rest-clause-damaged : goal.returns-in_err-rest-clause-damaged
returns-in_err-rest-clause-damaged c =
    on_error c.from_residual-in_err-rest.result (IsNoFramed c.args.before.now c.args.end.now c.args.bytes.now)
    (no_end c.args.before.now c.args.end.now c.args.bytes.now c.in_ok-text.text c.in_ok-text.closing.now c.in_ok-text.ensures.parts c.in_err-rest.ensures.parts)
