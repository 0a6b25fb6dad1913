use Rattle.std.proofs.lemmas.Result.{err_from_is_err_and, on_err_weaker, on_ok_weaker}
use Rattle.nquads_core.proofs.TransferSteps.{Appends-more}
use Rattle.spq_run.proofs.ReportSteps.{back_begun, back_failed, front_begun, front_failed, stays_stays}
use Rattle.spq_run.proofs.report.write_both.Goals as goal

pub returns : goal.returns
returns g c =
    let first = c.in_ok-write_text.ensures in
    let then = c.write_text-2 in
    record {
      written = on_ok_weaker then.result (Appends-more _ _ _ c.args.front.now c.args.back.now first.written) then.ensures.written;
      written_count = on_ok_weaker then.result (stays_stays _ _ _ first.written_count) then.ensures.written_count;
      failed = on_err_weaker then.result (back_begun _ _ _ c.args.front.now c.args.back.now first.written) then.ensures.failed;
      failed_count = on_err_weaker then.result (back_failed g.K.Sink.write_gives _ _ _ _ _ _ c.args.front.now c.args.back.now _ first.written_count first.written) then.ensures.failed_count;
    }

pub returns-in_err-write_text : goal.returns-in_err-write_text
returns-in_err-write_text g c =
    let p = err_from_is_err_and c.from_residual.result c.from_residual.ensures.1 in
    record {
      written = rw p.1 tt;
      written_count = rw p.1 tt;
      failed = rw p.1 (front_begun _ _ c.args.front.now c.args.back.now c.in_err-write_text.ensures.failed);
      failed_count = rw p.1 (front_failed g.K.Sink.write_gives _ _ _ _ c.args.front.now c.args.back.now _ c.in_err-write_text.ensures.failed_count);
    }
