use Rattle.std.proofs.Common.{Err, Ok, refl}
use Rattle.std.proofs.lemmas.Result.{err_from_is_err_and}
use Rattle.dataset_load.specs.Counted.{IsCountedFrom}
use Rattle.spq_run.specs.declared.fault.RunFault.TheVariants.{Memory}
use Rattle.spq_core.specs.Output.{check}
use Rattle.spq_core.proofs.ComposingSteps.{counted, not_loaded}
use Rattle.spq_core.proofs.DocumentSteps.{bad_check}
use Rattle.spq_core.proofs.program.checked.Goals as goal

pub returns-in_err-counted-clause-composing : goal.returns-in_err-counted-clause-composing
returns-in_err-counted-clause-composing g c =
    let p = err_from_is_err_and c.from_residual.result c.from_residual.ensures.1 in
    rw (p.1, p.2) (not_loaded g.S.Source.left g.S.Source.failures IsCountedFrom check _ _ _ _ tt (bad_check _ _) c.in_err-counted.ensures.loading)

pub returns-in-Ok-clause-composing : goal.returns-in-Ok-clause-composing
returns-in-Ok-clause-composing g c = counted g.S.Source.left g.S.Source.failures _ _ _ c.in_ok-counted.counted c.in_ok-counted.ensures.loading (Ok c.in-Ok.blocks) c.in-Ok.ensures.text tt

pub returns-in-Err-clause-composing : goal.returns-in-Err-clause-composing
returns-in-Err-clause-composing g c =
    rw c.run_fault.ensures.same (counted g.S.Source.left g.S.Source.failures _ _ _ c.in_ok-counted.counted c.in_ok-counted.ensures.loading (Err Memory) tt refl)

pub returns-in-Err-clause-cause : goal.returns-in-Err-clause-cause
returns-in-Err-clause-cause g c = c.run_fault.ensures.cause (g.S.Source.left c.args.reader.now)

pub returns-in_err-counted-clause-cause : goal.returns-in_err-counted-clause-cause
returns-in_err-counted-clause-cause g c =
    let p = err_from_is_err_and c.from_residual.result c.from_residual.ensures.1 in
    rw (p.1, p.2) c.in_err-counted.ensures.cause
