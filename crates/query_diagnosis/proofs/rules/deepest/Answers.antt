use Rattle.std.proofs.Common.{arith}
use Rattle.query_diagnosis.proofs.PlaceSteps.{first_open, not_deep, open_more, too_deep_at}
use Rattle.query_diagnosis.proofs.rules.deepest.Goals as goal

pub loop-i-init : goal.loop-i-init
loop-i-init c = (first_open c.args.tokens.now, omega arith)

pub loop-i-preserved : goal.loop-i-preserved
loop-i-preserved c = (
  open_more c.args.tokens.now c.loop-i.i c.loop-i.depth c.open_after-depth.result _ c.loop-i-test.true c.loop-i.invariant.0 c.open_after-depth.ensures.value c.if-depth-gt-MAX_DEPTH.false,
  c.if-depth-gt-MAX_DEPTH.false,
)

pub returns-then-depth-gt-MAX_DEPTH : goal.returns-then-depth-gt-MAX_DEPTH
returns-then-depth-gt-MAX_DEPTH c = record {
  first = too_deep_at c.args.tokens.now c.loop-i.i c.loop-i.depth c.open_after-depth.result _ c.loop-i-test.true c.loop-i.invariant.0 c.open_after-depth.ensures.value c.if-depth-gt-MAX_DEPTH.true;
}

pub returns : goal.returns
returns c = record { first = not_deep c.args.tokens.now c.loop-i.i c.loop-i.depth c.loop-i-test.false c.loop-i.invariant.0 }
