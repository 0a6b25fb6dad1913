use Rattle.text_dict.proofs.SlotLaws.{used_more}
use Rattle.text_dict.proofs.slots.first_empty.Goals as goal

pub loop-i-preserved : goal.loop-i-preserved
loop-i-preserved c = used_more c.args.slots.now c.loop-i.i c.loop-i-test.true c.loop-i.invariant c.if-slots-i-eq0.false
