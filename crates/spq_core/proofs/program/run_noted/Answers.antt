use Rattle.std.proofs.lemmas.Result.{err_from_is_err_and}
use Rattle.spq_core.specs.Output.{request_of}
use Rattle.spq_core.proofs.ComposingSteps.{not_composed, run_done, run_failed}
use Rattle.spq_core.proofs.program.run_noted.Goals as goal

pub returns-in_err-blocks-clause-run : goal.returns-in_err-blocks-clause-run
returns-in_err-blocks-clause-run g c =
    let p = err_from_is_err_and c.from_residual.result c.from_residual.ensures.1 in
    rw (p.1, p.2) (not_composed g.S.Source.left g.S.Source.failures g.K.Sink.held g.K.Sink.failures g.K.Sink.write_gives (request_of c.args.command.now) _ _ _ c.args.writer.now _ c.in_err-blocks.ensures.composing)

pub returns-in-Ok-clause-run : goal.returns-in-Ok-clause-run
returns-in-Ok-clause-run g c =
    run_done g.S.Source.left g.S.Source.failures g.K.Sink.held g.K.Sink.failures g.K.Sink.write_gives (request_of c.args.command.now) _ _ _ _ _ c.in_ok-blocks.blocks c.deref.result.now c.deref.ensures.value
    c.in_ok-blocks.ensures.composing _ c.in-Ok.ensures.written c.in-Ok.ensures.written_count

pub returns-clause-run : goal.returns-clause-run
returns-clause-run g c =
    run_failed g.S.Source.left g.S.Source.failures g.K.Sink.held g.K.Sink.failures g.K.Sink.write_gives (request_of c.args.command.now) _ _ _ _ _ c.in_ok-blocks.blocks c.deref.result.now c.deref.ensures.value
    c.in_ok-blocks.ensures.composing c.in-Err.ensures.failed c.in-Err.ensures.failed_count

pub returns-in_err-blocks-clause-answerable : goal.returns-in_err-blocks-clause-answerable
returns-in_err-blocks-clause-answerable g c =
    let p = err_from_is_err_and c.from_residual.result c.from_residual.ensures.1 in
    rw (p.1, p.2) (λ e. c.in_err-blocks.ensures.composing.answerable (cc))

pub returns-in_err-blocks-clause-one_worker : goal.returns-in_err-blocks-clause-one_worker
returns-in_err-blocks-clause-one_worker g c =
    let p = err_from_is_err_and c.from_residual.result c.from_residual.ensures.1 in
    rw (p.1, p.2) (λ one e. c.in_err-blocks.ensures.composing.one_worker one (cc))

pub returns-in_err-blocks-clause-cause : goal.returns-in_err-blocks-clause-cause
returns-in_err-blocks-clause-cause g c =
    let p = err_from_is_err_and c.from_residual.result c.from_residual.ensures.1 in
    rw (p.1, p.2) c.in_err-blocks.ensures.cause
