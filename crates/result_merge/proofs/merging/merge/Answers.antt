use Rattle.std.proofs.Common.{◌∙◌, ap, subst, sym, List, ℕ}
use Rattle.result_json.specs.Texts.{head_text}
use Rattle.result_merge.specs.Absent.{AreNoResults}
use Rattle.result_merge.specs.Merging.{AreResults}
use Rattle.result_merge.proofs.FaultSteps.{on_fault}
use Rattle.result_merge.proofs.ResultSteps.{headless, no_results_of}
use Rattle.result_merge.proofs.merging.merge.Goals as goal

pub merge_rows-requires : goal.merge_rows-requires
merge_rows-requires c = record {
  head = c.split_before.ensures.front (head_text c.in_ok-names.names.items) c.in_ok-names.ensures.parts ∙ ap head_text (sym c.deref.ensures.value);
}

pub returns-in_err-names-clause-damaged : goal.returns-in_err-names-clause-damaged
returns-in_err-names-clause-damaged c =
    on_fault c.from_residual.result c.in_err-names.field-0.0 (AreResults c.args.input.now → ⊥) c.from_residual.ensures.1
    (λ damaged. headless c.args.input.now (c.in_err-names.ensures.damaged damaged))

pub returns-in_err-made-clause-damaged : goal.returns-in_err-made-clause-damaged
returns-in_err-made-clause-damaged c =
    on_fault c.from_residual-in_err-made.result c.in_err-made.field-0.0 (AreResults c.args.input.now → ⊥) c.from_residual-in_err-made.ensures.1
    (λ damaged. no_results_of c.in_ok-names.names.items c.args.input.now c.in_ok-names.rest.now c.in_ok-names.ensures.parts
    (subst (λ (names : List (List ℕ)). AreNoResults names c.args.input.now) c.deref.ensures.value (c.in_err-made.ensures.damaged damaged)))
