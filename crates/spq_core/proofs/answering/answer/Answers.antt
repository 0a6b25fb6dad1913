use Rattle.std.proofs.lemmas.Result.{err_from_is_err_and}
use Rattle.spq_core.proofs.FaultSteps.{query_alone_is, query_fault_is}
use Rattle.spq_core.proofs.answering.answer.Goals as goal

pub returns-in_err-valid : goal.returns-in_err-valid
returns-in_err-valid g c =
    let p = err_from_is_err_and c.from_residual.result c.from_residual.ensures.1 in
    record {
      answer = rw p.1 tt;
      err = rw p.1 (query_fault_is c.args.doc.now c.args.query.now _ _ p.2 c.in_err-valid.ensures.rejected);
      one_worker = λ one. rw p.1 (query_alone_is c.args.query.now _ _ p.2 c.in_err-valid.ensures.rejected);
    }
