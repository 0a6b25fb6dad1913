use Rattle.std.proofs.Common.{◌≡◌, ◌-◌, ◌+◌, length, arith, refl, Some, None}
use Rattle.line_diagnosis.specs.declared.diagnosis.Walk.{Walk}
use Rattle.line_diagnosis.proofs.FrontLaws.{front_first, front_length, front_next, walk_ends, walk_stops}
use Rattle.line_diagnosis.proofs.diagnosis.read_front.Goals as goal

pub loop-c-init : goal.loop-c-init
loop-c-init c = front_first c.args.text.now c.utf8.text

pub loop-c-preserved : goal.loop-c-preserved
loop-c-preserved c =
    front_next c.args.text.now c.loop-c.rest.now c.in-Some.after.now c.in-Some.c c.loop-c.state c.in-Ok.next c.in-Some.ensures.1 c.in-Some.ensures.0 c.in-Ok.ensures.steps c.loop-c.invariant

pub loop-c-preserved-then-stays : goal.loop-c-preserved-then-stays
loop-c-preserved-then-stays c =
    front_next c.args.text.now c.loop-c.rest.now c.in-Some.after.now c.in-Some.c c.loop-c.state c.loop-c.state c.in-Some.ensures.1 c.in-Some.ensures.0 (c.stays.ensures c.if-stays.true) c.loop-c.invariant

pub overflow_sub-result : goal.overflow_sub-result
overflow_sub-result c = let f = front_length c.args.text.now c.loop-c.rest.now c.loop-c.state c.utf8.text c.loop-c.invariant in omega (arith, f)

pub returns-in-Err : goal.returns-in-Err
returns-in-Err c =
    let f = front_length c.args.text.now c.loop-c.rest.now c.loop-c.state c.utf8.text c.loop-c.invariant in
    let w : Walk = record { offset = length c.args.text.now - length c.loop-c.rest.now; state = c.loop-c.state; reason = Some c.in-Err.reason } in
    let o : (length c.args.text.now - length c.loop-c.rest.now) + length c.loop-c.rest.now ≡ length c.args.text.now = omega (arith, f) in
    walk_stops c.args.text.now c.loop-c.rest.now c.in-Some.after.now c.in-Some.c w c.in-Err.reason c.utf8.text c.in-Some.ensures.0 c.loop-c.invariant o refl c.in-Err.ensures.says c.in-Err.ensures.steps

pub returns : goal.returns
returns c =
    let w : Walk = record { offset = length c.args.text.now; state = c.loop-c.state; reason = None } in
    walk_ends c.args.text.now c.loop-c.rest.now w c.utf8.text c.in_default.ensures c.loop-c.invariant refl refl
