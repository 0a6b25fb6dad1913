use Rattle.std.proofs.Common.{◌∙◌}
use Rattle.rdf_core.proofs.AppendSteps.{two, error_after}
use Rattle.rdf_core.proofs.serialization.put_both.Goals as goal

pub returns-clause-ok : goal.returns-clause-ok
returns-clause-ok c = two _ _ _ _ _ c.in_ok-extend_from_slice.ensures.items c.in_ok-extend_from_slice-2.ensures.items

pub returns-in_err-extend_from_slice-2-clause-err : goal.returns-in_err-extend_from_slice-2-clause-err
returns-in_err-extend_from_slice-2-clause-err c =
    error_after _ c.args.out.now.items _ _ (c.in_err-extend_from_slice-2.ensures.items ∙ c.in_ok-extend_from_slice.ensures.items)
