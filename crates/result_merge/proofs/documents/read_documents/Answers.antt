use Rattle.result_merge.specs.Absent.{AreNoDocuments}
use Rattle.result_merge.proofs.FaultSteps.{on_fault}
use Rattle.result_merge.proofs.LoopSteps.{document_read, document_shorter}
use Rattle.result_merge.proofs.ResultSteps.{documents_more, no_documents, some_bytes}
use Rattle.result_merge.proofs.documents.read_documents.Goals as goal

pub loop-rest-preserved : goal.loop-rest-preserved
loop-rest-preserved c = record {
  read = document_read c.args.width c.args.columns.now c.args.head.now c.loop-rest.read.items c.read_document.new.read.items c.args.bytes.now c.loop-rest.rest.now c.in_ok-end.end.now c.loop-rest.invariant.read c.in_ok-end.ensures.rows;
  there = documents_more c.args.head.now c.args.columns.now c.args.bytes.now c.loop-rest.rest.now c.in_ok-end.end.now c.loop-rest.invariant.there (some_bytes c.loop-rest.rest.now c.loop-rest-test.ensures) c.in_ok-end.ensures.after;
}

pub loop-rest-smaller : goal.loop-rest-smaller
loop-rest-smaller c =
    document_shorter c.args.width c.args.columns.now c.args.head.now c.loop-rest.read.items c.read_document.new.read.items c.loop-rest.rest.now c.in_ok-end.end.now c.in_ok-end.ensures.rows

pub returns-in_err-end-clause-damaged : goal.returns-in_err-end-clause-damaged
returns-in_err-end-clause-damaged c =
    on_fault c.from_residual.result c.in_err-end.field-0.0 (AreNoDocuments c.args.head.now c.args.columns.now c.args.bytes.now) c.from_residual.ensures.1
    (λ damaged. no_documents c.args.head.now c.args.columns.now c.args.bytes.now c.loop-rest.rest.now c.loop-rest.invariant.there (some_bytes c.loop-rest.rest.now c.loop-rest-test.ensures)
    (c.in_err-end.ensures.damaged damaged))
