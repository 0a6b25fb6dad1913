use Rattle.std.proofs.Common.{Bool, List, false, map, get_or, ap, ◌∙◌, arith}
use Rattle.algebra_model.specs.Operators.{restrict}
use Rattle.sparql_eval.proofs.ProjectSteps.{project-alike}
use Rattle.sparql_eval.proofs.projections.restricted.Goals as goal

pub returns-clause-made : goal.returns-clause-made
returns-clause-made c =
    let rows = c.args.rows in
    let kept = c.in_ok-kept.kept.items in
    let listed = project-alike c.args.variables.now (λ k. get_or kept k false) rows.width (λ k low. c.in_ok-kept.ensures.listed k (omega arith)) rows.rows c.width.ensures.wide in
    (c.restrict.ensures.width, c.restrict.ensures.restricted ∙ ap (λ (l : List Bool). map (restrict (λ k. get_or l k false)) rows.rows) c.as_slice.ensures.value ∙ listed)
