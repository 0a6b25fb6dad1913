use Rattle.std.proofs.Common.{refl}
use Rattle.std.proofs.lemmas.List.{take_rest}
use Rattle.text_dict.proofs.SlotLaws.{found_back, found_front}
use Rattle.text_dict.proofs.slots.find.Goals as goal

pub returns-in-Free : goal.returns-in-Free
returns-in-Free c =
    record {
      found = found_back c.args.slots.now c.args.hash c.start_of-start.result c.start_of-start.ensures.value _ _ (take_rest c.args.slots.now c.start_of-start.result) refl
          c.args.texts.now c.args.text.now c.in-Free.i c.in-Free.ensures.probe;
    }

pub returns-in-Full : goal.returns-in-Full
returns-in-Full c =
    record {
      found = found_front c.args.slots.now c.args.hash c.start_of-start.result c.start_of-start.ensures.value _ _ (take_rest c.args.slots.now c.start_of-start.result) refl
          c.args.texts.now c.args.text.now c.probe-in-Full.result c.in-Full.ensures.probe c.probe-in-Full.ensures.probe;
    }
