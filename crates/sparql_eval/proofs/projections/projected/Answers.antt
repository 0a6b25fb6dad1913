use Rattle.std.proofs.Common.{Bool, false, List, [], ◌∷◌, ◌++◌, get_or, sym, ap, ◌∙◌, arith, Some, length}
use Rattle.algebra_model.specs.Operators.{project, restrict}
use Rattle.sparql_eval.proofs.ProjectSteps.{project-take}
use Rattle.sparql_eval.proofs.ReadingLaws.{all_taken}
use Rattle.sparql_eval.proofs.projections.projected.Goals as goal

pub loop-i-preserved : goal.loop-i-preserved
loop-i-preserved c =
    let was = c.loop-i.invariant in
    let row = c.as_slice-row.result.now in
    let kept = c.in_ok-kept.kept.items in
    let cells = c.as_slice-in-loop-i.ensures.value ∙ c.in_ok-restrict_into.ensures.restricted
    ∙ ap (λ (l : List Bool). restrict (λ k. get_or l k false) row) c.as_slice.ensures.value in
    record {
      width = c.in_ok-push.ensures.width ∙ was.width;
      made =
          c.in_ok-push.ensures.added ∙ (λ i. was.made i ++ cells i ∷ [])
          ∙ sym (project-take c.args.variables.now (λ k. get_or kept k false) c.args.rows.now.width (λ k low. c.in_ok-kept.ensures.listed k (omega arith)) c.args.rows.now.rows c.loop-i.i row (c.in_ok-read.ensures.found ∙ ap Some (sym c.as_slice-row.ensures.value)) (ap length c.as_slice-row.ensures.value ∙ c.in_ok-read.ensures.wide));
    }

pub returns-clause-made : goal.returns-clause-made
returns-clause-made c =
    let was = c.loop-i.invariant in
    let whole = all_taken c.args.rows.now.rows c.loop-i.i (omega arith) in
    (was.width, was.made ∙ ap (project c.args.variables.now) whole)
