use Rattle.result_merge.proofs.LoopSteps.{row_long, row_read}
use Rattle.result_merge.proofs.ListSteps.{no_row_comma, no_row_more, rows_end, rows_more}
use Rattle.result_merge.proofs.ReadSteps.{shorter}
use Rattle.result_merge.specs.Absent.{AreNoRows}
use Rattle.result_merge.specs.Reading.{comma}
use Rattle.result_merge.proofs.FaultSteps.{on_error, on_fault}
use Rattle.result_merge.proofs.documents.read_rows.Goals as goal

pub reading-preserved : goal.reading-preserved
reading-preserved c = record {
  read = row_read c.args.width c.args.columns.now c.args.read.now.items c.reading.read.items c.push_row.new.rows.items c.in_ok-row.row c.args.bytes.now c.reading.rest.now c.in_ok-next.next.now c.in_ok-row.end.now c.reading.later
      c.reading.invariant.read c.in_ok-next.ensures.parts c.in_ok-row.ensures.parts c.in_ok-row.ensures.row c.in_ok-push_row.ensures.pushed;
  there = rows_more c.args.columns.now c.args.width c.in_ok-row.row c.args.bytes.now c.reading.rest.now c.in_ok-next.next.now c.in_ok-row.end.now c.reading.later c.reading.invariant.there
      c.reading-test.ensures.parts c.in_ok-next.ensures.parts c.in_ok-row.ensures.row c.in_ok-row.ensures.parts;
}

pub reading-smaller : goal.reading-smaller
reading-smaller c =
    shorter c.reading.rest.now (comma c.reading.later) c.in_ok-next.next.now c.in_ok-row.row.1.now c.in_ok-row.end.now c.in_ok-next.ensures.parts c.in_ok-row.ensures.parts (row_long c.args.width c.args.columns.now c.in_ok-row.row c.in_ok-row.ensures.row)

pub returns-in_err-next-clause-damaged : goal.returns-in_err-next-clause-damaged
returns-in_err-next-clause-damaged c =
    on_error c.from_residual.result (AreNoRows c.args.columns.now c.args.bytes.now)
    (no_row_comma c.args.columns.now c.args.bytes.now c.reading.rest.now c.reading.later c.reading.invariant.there c.reading-test.ensures.parts c.in_err-next.ensures.parts)

pub returns-in_err-row-clause-damaged : goal.returns-in_err-row-clause-damaged
returns-in_err-row-clause-damaged c =
    on_fault c.from_residual-in_err-row.result c.in_err-row.field-0.0 (AreNoRows c.args.columns.now c.args.bytes.now) c.from_residual-in_err-row.ensures.1
    (λ damaged. no_row_more c.args.columns.now c.args.bytes.now c.reading.rest.now c.in_ok-next.next.now c.reading.later c.reading.invariant.there c.reading-test.ensures.parts c.in_ok-next.ensures.parts
    (c.in_err-row.ensures.damaged damaged))

pub returns-clause-after : goal.returns-clause-after
returns-clause-after c =
    rows_end c.args.columns.now c.args.bytes.now c.reading.rest.now c.reading-test.ensures.parts.0 c.reading.later c.reading.invariant.there c.reading-test.ensures.parts.1
