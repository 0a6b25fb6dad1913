use Rattle.std.proofs.Common.{◌≡◌, ℕ, Bool, true, nat_eq}
use Rattle.std.proofs.lemmas.Result.{IfOk-weaker}
use Rattle.algebra_model.specs.Bag.{IsSameBag}
use Rattle.algebra_model.specs.Operators.{join}
use Rattle.row_join.specs.Numbers.{all_pass}
use Rattle.row_join.proofs.NumberLaws.{knows_all, bag_pass, join_pass}
use Rattle.row_join.proofs.joins.join.Goals as goal

pub pair_rows-requires-clause-left_known : goal.pair_rows-requires-clause-left_known
pair_rows-requires-clause-left_known g c κs within = knows_all c.args.left.now.rows

pub pair_rows-requires-clause-right_known : goal.pair_rows-requires-clause-right_known
pair_rows-requires-clause-right_known g c κs within = knows_all c.args.right.now.rows

pub returns-clause-rows : goal.returns-clause-rows
returns-clause-rows g c = c.pair_rows.ensures.rows

pub returns-clause-numbers : goal.returns-clause-numbers
returns-clause-numbers g c =
    let left = c.args.left.now.rows in
    let right = c.args.right.now.rows in
    IfOk-weaker c.pair_rows.result (λ rows. IsSameBag rows.rows (join nat_eq left right)) (λ rows. (p : ℕ → Bool) → all_pass p left ≡ true → all_pass p right ≡ true → all_pass p rows.rows ≡ true)
    (λ rows is p h k. bag_pass p rows.rows (join nat_eq left right) is (join_pass p left right h k)) (returns-clause-rows g c)
