use Rattle.std.proofs.Common.{arith}
use Rattle.std.proofs.lemmas.Grind.{common_steps}
use Rattle.row_core.proofs.TurnLaws.{merge-take}
use Rattle.row_core.proofs.merging.merge_into.Goals as goal

pub loop-i-preserved : goal.loop-i-preserved
loop-i-preserved c =
    let step = merge-take c.args.a.now c.args.b.now c.loop-i.i c.loop-i-test.true c.requires.same_width in
    let pushed = c.in_ok-push.ensures.items in
    (cc, grind (arith, common_steps))
