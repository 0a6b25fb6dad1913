use Rattle.std.proofs.Common.{get_or, false, arith}
use Rattle.std.proofs.lemmas.Grind.{common_steps}
use Rattle.sparql_eval.proofs.ProjectSteps.{restrict-take}
use Rattle.sparql_eval.proofs.projections.restrict_into.Goals as goal

pub loop-i-preserved : goal.loop-i-preserved
loop-i-preserved c =
    let step = restrict-take (λ k. get_or c.args.kept.now k false) c.args.row.now c.loop-i.i c.loop-i-test.true in
    let pushed = c.in_ok-push.ensures.items in
    record { wide = grind (arith, common_steps); restricted = cc }
