use Rattle.result_merge.specs.Absent.{IsNoDocument}
use Rattle.result_merge.proofs.FaultSteps.{on_error, on_fault}
use Rattle.result_merge.proofs.LoopSteps.{table_read}
use Rattle.result_merge.proofs.ResultSteps.{document_ends, no_document_end, no_document_rows, no_document_start}
use Rattle.result_merge.proofs.documents.read_document.Goals as goal

pub returns : goal.returns
returns c = record {
  rows = table_read c.args.width c.args.columns.now c.args.head.now c.args.read.now.items c.read_rows.new.read.items c.args.bytes.now c.in_ok-rows.rows.now c.in_ok-closing.closing.now c.in_ok-end.end.now
      c.in_ok-rows.ensures.parts c.in_ok-closing.ensures.rows c.in_ok-end.ensures.parts;
  after = document_ends c.args.head.now c.args.columns.now c.args.bytes.now c.in_ok-rows.rows.now c.in_ok-closing.closing.now c.in_ok-end.end.now c.in_ok-rows.ensures.parts c.in_ok-closing.ensures.after c.in_ok-end.ensures.parts;
  damaged = tt;
}

pub returns-in_err-rows-clause-damaged : goal.returns-in_err-rows-clause-damaged
returns-in_err-rows-clause-damaged c =
    on_error c.from_residual.result (IsNoDocument c.args.head.now c.args.columns.now c.args.bytes.now)
    (no_document_start c.args.head.now c.args.columns.now c.args.bytes.now c.in_err-rows.ensures.parts)

pub returns-in_err-closing-clause-damaged : goal.returns-in_err-closing-clause-damaged
returns-in_err-closing-clause-damaged c =
    on_fault c.from_residual-in_err-closing.result c.in_err-closing.field-0.0 (IsNoDocument c.args.head.now c.args.columns.now c.args.bytes.now) c.from_residual-in_err-closing.ensures.1
    (λ damaged. no_document_rows c.args.head.now c.args.columns.now c.args.bytes.now c.in_ok-rows.rows.now c.in_ok-rows.ensures.parts (c.in_err-closing.ensures.damaged damaged))

pub returns-in_err-end-clause-damaged : goal.returns-in_err-end-clause-damaged
returns-in_err-end-clause-damaged c =
    on_error c.from_residual-in_err-end.result (IsNoDocument c.args.head.now c.args.columns.now c.args.bytes.now)
    (no_document_end c.args.head.now c.args.columns.now c.args.bytes.now c.in_ok-rows.rows.now c.in_ok-closing.closing.now c.in_ok-rows.ensures.parts c.in_ok-closing.ensures.after c.in_err-end.ensures.parts)
