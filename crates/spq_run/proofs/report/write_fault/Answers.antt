use Rattle.spq_run.proofs.ReportSteps.{line_begun, line_failed, line_written}
use Rattle.spq_run.proofs.report.write_fault.Goals as goal

pub returns-in-Line : goal.returns-in-Line
returns-in-Line g c =
    let gives = g.K.Sink.write_gives in
    let is = c.in-Line.is in
    let done = c.write_text in
    record {
      written = line_written gives _ _ is done.result _ _ done.ensures.written;
      written_count = done.ensures.written_count;
      failed = line_begun gives _ _ is done.result _ _ done.ensures.failed;
      failed_count = line_failed gives _ _ is done.result _ _ _ _ _ done.ensures.failed_count;
    }

pub returns-in-WorkerRefused : goal.returns-in-WorkerRefused
returns-in-WorkerRefused g c =
    let gives = g.K.Sink.write_gives in
    let is = c.in-WorkerRefused.is in
    let done = c.write_text-in-WorkerRefused in
    record {
      written = line_written gives _ _ is done.result _ _ done.ensures.written;
      written_count = done.ensures.written_count;
      failed = line_begun gives _ _ is done.result _ _ done.ensures.failed;
      failed_count = line_failed gives _ _ is done.result _ _ _ _ _ done.ensures.failed_count;
    }

pub returns-in-Memory : goal.returns-in-Memory
returns-in-Memory g c =
    let gives = g.K.Sink.write_gives in
    let is = c.in-Memory.is in
    let done = c.write_text-in-Memory in
    record {
      written = line_written gives _ _ is done.result _ _ done.ensures.written;
      written_count = done.ensures.written_count;
      failed = line_begun gives _ _ is done.result _ _ done.ensures.failed;
      failed_count = line_failed gives _ _ is done.result _ _ _ _ _ done.ensures.failed_count;
    }

pub returns-in-Read : goal.returns-in-Read
returns-in-Read g c =
    let gives = g.K.Sink.write_gives in
    let is = c.in-Read.is in
    let done = c.write_text-in-Read in
    record {
      written = line_written gives _ _ is done.result _ _ done.ensures.written;
      written_count = done.ensures.written_count;
      failed = line_begun gives _ _ is done.result _ _ done.ensures.failed;
      failed_count = line_failed gives _ _ is done.result _ _ _ _ _ done.ensures.failed_count;
    }

pub returns-in-Write : goal.returns-in-Write
returns-in-Write g c =
    let gives = g.K.Sink.write_gives in
    let is = c.in-Write.is in
    let done = c.write_text-in-Write in
    record {
      written = line_written gives _ _ is done.result _ _ done.ensures.written;
      written_count = done.ensures.written_count;
      failed = line_begun gives _ _ is done.result _ _ done.ensures.failed;
      failed_count = line_failed gives _ _ is done.result _ _ _ _ _ done.ensures.failed_count;
    }
