use Rattle.result_merge.specs.Absent.{IsNoHead}
use Rattle.result_merge.proofs.FaultSteps.{on_error, on_fault}
use Rattle.result_merge.proofs.ListSteps.{no_head_end, no_head_names, no_head_start}
use Rattle.result_merge.proofs.LoopSteps.{head_read}
use Rattle.result_merge.proofs.documents.read_head.Goals as goal

pub returns : goal.returns
returns c = record {
  parts = head_read c.args.bytes.now c.in_ok-list.list.now c.in_ok-names.closing.now c.in_ok-rows.rows.now c.in_ok-names.names.items c.in_ok-list.ensures.parts c.in_ok-names.ensures.parts c.in_ok-rows.ensures.parts;
  damaged = tt;
}

pub returns-in_err-list-clause-damaged : goal.returns-in_err-list-clause-damaged
returns-in_err-list-clause-damaged c =
    on_error c.from_residual.result (IsNoHead c.args.bytes.now) (no_head_start c.args.bytes.now c.in_err-list.ensures.parts)

pub returns-in_err-names-clause-damaged : goal.returns-in_err-names-clause-damaged
returns-in_err-names-clause-damaged c =
    on_fault c.from_residual-in_err-names.result c.in_err-names.field-0.0 (IsNoHead c.args.bytes.now) c.from_residual-in_err-names.ensures.1
    (λ damaged. no_head_names c.args.bytes.now c.in_ok-list.list.now c.in_ok-list.ensures.parts (c.in_err-names.ensures.damaged damaged))

pub returns-in_err-rows-clause-damaged : goal.returns-in_err-rows-clause-damaged
returns-in_err-rows-clause-damaged c =
    on_error c.from_residual-in_err-rows.result (IsNoHead c.args.bytes.now)
    (no_head_end c.args.bytes.now c.in_ok-list.list.now c.in_ok-names.closing.now c.in_ok-names.ensures.closed.0 c.in_ok-names.names.items c.in_ok-list.ensures.parts c.in_ok-names.ensures.parts
    c.in_ok-names.ensures.closed.1 c.in_err-rows.ensures.parts)
