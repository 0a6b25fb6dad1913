use Rattle.std.proofs.Common.{arith}
use Rattle.query_plan.proofs.OffsetLaws.{one_more_same}
use Rattle.query_plan.proofs.offset.have_same_front.Goals as goal

pub loop-i-preserved : goal.loop-i-preserved
loop-i-preserved c =
    one_more_same c.args.a.now c.args.b.now c.loop-i.i _ (omega (arith, c.loop-i-test.true, c.if-a-b.false, c.if-a-others.false))
    (omega (arith, c.loop-i-test.true, c.if-a-b.false, c.if-a-others.false)) (c.is_same.ensures.same c.if-not-is_same.false) c.loop-i.invariant
