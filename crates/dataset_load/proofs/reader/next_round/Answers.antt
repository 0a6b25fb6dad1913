use Rattle.dataset_load.proofs.StreamingSteps.{part_of_next}
use Rattle.dataset_load.proofs.reader.next_round.Goals as goal

pub returns-clause-round : goal.returns-clause-round
returns-clause-round g c =
    let filled = c.in_ok-is_last.ensures in
    record { few = filled.few; whole_lines = filled.whole_lines; long = filled.long; more = filled.more; last = filled.last }

pub returns-clause-taken : goal.returns-clause-taken
returns-clause-taken g c =
    let filled = c.in_ok-is_last.ensures in
    part_of_next _ _ c.args.blocks.now.kept c.fill_round.new.blocks.kept (record { blocks = c.fill_round.new.round; is_last = c.in_ok-is_last.is_last })
    (record { few = filled.few; whole_lines = filled.whole_lines; long = filled.long; more = filled.more; last = filled.last })
