use Rattle.std.proofs.Common.{◌++◌, List, ℕ, subst, nat_eq}
use Rattle.algebra_model.specs.Bag.{IsSameBag}
use Rattle.algebra_model.specs.Operators.{merges}
use Rattle.algebra_model.specs.Solution.{Solution}
use Rattle.row_join.specs.Row.{row_of}
use Rattle.row_join.proofs.NumberLaws.{knows_all, knows_row}
use Rattle.row_join.proofs.PairLaws.{filter-every}
use Rattle.row_join.proofs.joins.MergesPairing.add.Goals as goal

pub add_merges-requires-clause-row_known : goal.add_merges-requires-clause-row_known
add_merges-requires-clause-row_known c = knows_row (row_of c.args.row)

pub add_merges-requires-clause-right_known : goal.add_merges-requires-clause-right_known
add_merges-requires-clause-right_known c = knows_all c.args.right.now.rows.now.rows

pub returns-clause-rows : goal.returns-clause-rows
returns-clause-rows c =
    subst (λ (l : List (Solution ℕ)). IsSameBag c.add_merges.new.made.rows (c.args.made.now.rows ++ l))
    (filter-every (merges nat_eq (row_of c.args.row) c.args.right.now.rows.now.rows)) c.in_ok-add_merges.ensures.rows
