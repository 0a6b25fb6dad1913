use Rattle.std.proofs.Common.{◌/◌, subst}
use Rattle.text_dict.specs.Slots.{IsPlace, most_numbers}
use Rattle.text_dict.proofs.MoveLaws.{put_at, put_none}
use Rattle.text_dict.proofs.slots.put.Goals as goal

pub returns-then-slot-eq0 : goal.returns-then-slot-eq0
returns-then-slot-eq0 c = record { put = put_none c.args.slots.now.items c.args.slot c.if-slot-eq0.true }

pub returns : goal.returns
returns c = record {
  put = put_at c.args.slots.now.items c.args.slot c.in-Some.place c.requires.short
      (subst (λ l. IsPlace l (c.args.slot / most_numbers) c.in-Some.place) c.as_slice.ensures.value c.in-Some.ensures.place);
}
