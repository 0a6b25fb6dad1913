use Rattle.std.proofs.Common.{◌++◌, codes, decimal}
use Rattle.std.proofs.lemmas.Result.{on_err_weaker}
use Rattle.spq_run.proofs.ReportSteps.{back_begun, back_failed, front_begun, front_failed}
use Rattle.spq_run.proofs.report.write_bad_line.Goals as goal

pub returns-in-Err-clause-failed : goal.returns-in-Err-clause-failed
returns-in-Err-clause-failed g c = front_begun _ _ (codes "error: line ") (decimal c.args.line ++ codes "\n") c.in-Err.ensures.failed

pub returns-in-Ok-clause-failed : goal.returns-in-Ok-clause-failed
returns-in-Ok-clause-failed g c =
    on_err_weaker c.write_number.result (back_begun _ _ _ (codes "error: line ") (decimal c.args.line ++ codes "\n") c.in-Ok.ensures.written) c.write_number.ensures.failed

pub returns-in-Err-clause-failed_count : goal.returns-in-Err-clause-failed_count
returns-in-Err-clause-failed_count g c = front_failed g.K.Sink.write_gives _ _ _ _ (codes "error: line ") (decimal c.args.line ++ codes "\n") _ c.in-Err.ensures.failed_count

pub returns-in-Ok-clause-failed_count : goal.returns-in-Ok-clause-failed_count
returns-in-Ok-clause-failed_count g c =
    on_err_weaker c.write_number.result (back_failed g.K.Sink.write_gives _ _ _ _ _ _ (codes "error: line ") (decimal c.args.line ++ codes "\n") _ c.in-Ok.ensures.written_count c.in-Ok.ensures.written) c.write_number.ensures.failed_count
