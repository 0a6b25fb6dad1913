use Rattle.algebra_model.proofs.RangeLaws.{Each-IsSameBag}
use Rattle.result_merge.specs.Reading.{HasText}
use Rattle.result_merge.proofs.MergeSteps.{sorted_rows_of}
use Rattle.result_merge.proofs.merging.sort_rows.Goals as goal

pub returns-clause-sorted : goal.returns-clause-sorted
returns-clause-sorted c = sorted_rows_of c.args.rows.now.items c.sort.new.self.items c.in_ok-sort.ensures.permutation c.in_ok-sort.ensures.sorted

pub returns-clause-texts : goal.returns-clause-texts
returns-clause-texts c = λ text h. Each-IsSameBag (HasText text) c.args.rows.now.items c.sort.new.self.items c.in_ok-sort.ensures.permutation h
