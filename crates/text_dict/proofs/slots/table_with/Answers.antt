use Rattle.std.proofs.Common.{◌≤◌, length, subst, arith, ◌∙◌}
use Rattle.std.proofs.lemmas.List.{take_all}
use Rattle.text_dict.specs.Slots.{AreMoved}
use Rattle.text_dict.proofs.MoveLaws.{moved_more}
use Rattle.text_dict.proofs.slots.table_with.Goals as goal

pub loop-i-preserved : goal.loop-i-preserved
loop-i-preserved c =
    let was = c.loop-i.invariant in
    let put = c.in_ok-put.ensures.put in record {
      len = put.len ∙ was.len;
      moved = moved_more c.args.slots.now c.loop-i.longer.items c.put.new.slots.items c.loop-i.i c.loop-i-test.true was.moved put;
    }

pub returns : goal.returns
returns c =
    let done : length c.args.slots.now ≤ c.loop-i.i = omega (arith, c.loop-i-test.false) in
    record { moved = subst (λ l. AreMoved l c.loop-i.longer.items) (take_all c.loop-i.i c.args.slots.now done) c.loop-i.invariant.moved }
