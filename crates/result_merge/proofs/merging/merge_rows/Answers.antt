use Rattle.std.proofs.Common.{◌∙◌, ap, subst, sym}
use Rattle.algebra_model.specs.Sorted.{slice}
use Rattle.result_merge.specs.Reading.{AreColumns}
use Rattle.result_merge.specs.Absent.{AreNoResults}
use Rattle.result_merge.proofs.FaultSteps.{on_fault}
use Rattle.result_merge.proofs.FinalSteps.{is_merged}
use Rattle.result_merge.proofs.ResultSteps.{no_results}
use Rattle.result_merge.proofs.merging.merge_rows.Goals as goal

pub returns : goal.returns
returns c = record {
  merged = is_merged c.args.distinct c.args.offset c.args.limit c.args.names.now c.deref.result.now c.args.head.now c.args.input.now c.in_ok-made.made.items c.in_ok-rows.rows.items c.order_rows.new.rows.items c.sliced.result.now
      c.requires.head (subst (AreColumns c.args.names.now) (sym c.deref.ensures.value) c.in_ok-columns.ensures.columns) c.in_ok-rows.ensures.rows c.in_ok-order_rows.ensures.rows (c.sliced.ensures.value ∙ ap (slice c.args.offset c.args.limit) c.deref-2.ensures.value) c.in_ok-made.ensures.text;
  damaged = tt;
}

pub returns-in_err-rows-clause-damaged : goal.returns-in_err-rows-clause-damaged
returns-in_err-rows-clause-damaged c =
    on_fault c.from_residual-in_err-rows.result c.in_err-rows.field-0.0 (AreNoResults c.args.names.now c.args.input.now) c.from_residual-in_err-rows.ensures.1
    (λ damaged. no_results c.args.names.now c.deref.result.now c.args.head.now c.args.input.now c.requires.head
    (subst (AreColumns c.args.names.now) (sym c.deref.ensures.value) c.in_ok-columns.ensures.columns) (c.in_err-rows.ensures.damaged damaged))
