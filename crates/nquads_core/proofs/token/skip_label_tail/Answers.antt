use Rattle.std.proofs.Common.{sym}
use Rattle.nquads_core.proofs.Runs.{Stops-nil, Stops-cons, tail_goes_on, tail_dot, tail_done}
use Rattle.nquads_core.proofs.token.skip_label_tail.Goals as goal

pub loop-c-preserved-then-is_label_char : goal.loop-c-preserved-then-is_label_char
loop-c-preserved-then-is_label_char c =
    tail_goes_on c.loop-c.good.now c.loop-c.rest.now c.args.text.now c.in-Some.after.now c.in-Some.c c.loop-c.invariant c.in-Some.ensures.0 c.in-Some.ensures.1 (sym c.if-is_label_char.ensures.value)

pub loop-c-preserved : goal.loop-c-preserved
loop-c-preserved c =
    tail_dot c.loop-c.good.now c.loop-c.rest.now c.args.text.now c.in-Some.after.now c.in-Some.c c.loop-c.invariant c.in-Some.ensures.0 c.in-Some.ensures.1 c.if-c-eq46.true

pub returns-else-c-eq46 : goal.returns-else-c-eq46
returns-else-c-eq46 c =
    tail_done c.loop-c.good.now c.loop-c.rest.now c.args.text.now c.loop-c.invariant
    (Stops-cons c.in-Some.c _ _ c.in-Some.ensures.0 (sym c.if-is_label_char.ensures.value) c.if-c-eq46.false)

pub returns : goal.returns
returns c =
    tail_done c.loop-c.good.now c.loop-c.rest.now c.args.text.now c.loop-c.invariant (Stops-nil _ c.in_default.ensures)
