use Rattle.std.proofs.Common.{refl}
use Rattle.text_dict.proofs.SlotLaws.{other_tag, other_text, passed_more}
use Rattle.text_dict.proofs.slots.probe.Goals as goal
use Rattle.text_dict.proofs.slots.probe.Goals.{then-slot-wanted+else-is_before, else-slot-wanted}

pub loop-i-preserved : goal.loop-i-preserved
loop-i-preserved c =
    passed_more c.args.texts.now c.args.text.now c.args.hash c.args.slots.now c.loop-i.i c.loop-i-test.true c.loop-i.invariant c.if-slot-eq0.false
    (elim c.if-slot-wanted.branch [
      | then-slot-wanted+else-is_before w ↦ other_text c.args.texts.now c.args.text.now c.args.hash c.requires.few _ _ refl (w.is_before.ensures.no w.if-is_before.false)
      | else-slot-wanted w ↦ other_tag c.args.texts.now c.args.text.now c.args.hash c.requires.few _ w.if-slot-wanted.false
    ])
