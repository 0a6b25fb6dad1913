use Rattle.std.proofs.Common.{refl}
use Rattle.std.proofs.lemmas.List.{take_rest}
use Rattle.text_dict.proofs.SlotLaws.{empty_front, free_back}
use Rattle.text_dict.proofs.slots.empty_slot.Goals as goal

pub returns-in-Some : goal.returns-in-Some
returns-in-Some c =
    record {
      place = free_back c.args.slots.now c.args.hash c.start_of-start.result c.start_of-start.ensures.value _ _ (take_rest c.args.slots.now c.start_of-start.result) refl
          c.in-Some.i c.in-Some.ensures.empty.0 c.in-Some.ensures.empty.1;
    }

pub returns : goal.returns
returns c =
    record {
      place = empty_front c.args.slots.now c.args.hash c.start_of-start.result c.start_of-start.ensures.value _ _ (take_rest c.args.slots.now c.start_of-start.result) refl
          c.first_empty-2.result c.in_default.ensures.empty c.first_empty-2.ensures.empty;
    }
