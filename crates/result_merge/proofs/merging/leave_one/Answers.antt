use Rattle.result_merge.proofs.MergeSteps.{left_one}
use Rattle.result_merge.proofs.merging.leave_one.Goals as goal

pub returns : goal.returns
returns c = record { rows = λ text all h e. left_one text all c.args.rows.now.items c.dedup.new.self.items c.dedup.ensures.filtered h e }
