use Rattle.std.proofs.lemmas.Result.{on_err_weaker}
use Rattle.spq_run.proofs.ReportSteps.{text_failed}
use Rattle.spq_run.proofs.writing.write_text.Goals as goal

pub returns-clause-failed_count : goal.returns-clause-failed_count
returns-clause-failed_count g c = on_err_weaker c.write_all.result (text_failed g.K.Sink.write_gives _ _ _ _ c.args.text.now _) c.write_all.ensures.failed_count
