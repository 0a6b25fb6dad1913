use Rattle.std.proofs.Common.{◌≡◌, ℕ, Bool, true, nat_eq, flat_map, subst}
use Rattle.std.proofs.lemmas.Result.{IfOk-weaker}
use Rattle.algebra_model.specs.Bag.{IsSameBag}
use Rattle.algebra_model.specs.Operators.{minus}
use Rattle.row_join.specs.Numbers.{all_pass}
use Rattle.row_join.specs.Pairing.{is_apart, row_if}
use Rattle.row_join.proofs.NumberLaws.{knows_all, bag_pass, minus_pass}
use Rattle.row_join.proofs.PairLaws.{rows_if}
use Rattle.row_join.proofs.minus_operator.minus.Goals as goal

pub pair_rows-requires-clause-left_known : goal.pair_rows-requires-clause-left_known
pair_rows-requires-clause-left_known g c κs within = knows_all c.args.left.now.rows

pub pair_rows-requires-clause-right_known : goal.pair_rows-requires-clause-right_known
pair_rows-requires-clause-right_known g c κs within = knows_all c.args.right.now.rows

pub returns-clause-rows : goal.returns-clause-rows
returns-clause-rows g c =
    let left = c.args.left.now.rows in
    let right = c.args.right.now.rows in
    IfOk-weaker c.pair_rows.result (λ rows. IsSameBag rows.rows (flat_map (λ μ. row_if (is_apart right μ) μ) left)) (λ rows. IsSameBag rows.rows (minus nat_eq left right))
    (λ rows is. subst (IsSameBag rows.rows) (rows_if (is_apart right) left) is) c.pair_rows.ensures.rows

pub returns-clause-numbers : goal.returns-clause-numbers
returns-clause-numbers g c =
    let left = c.args.left.now.rows in
    let right = c.args.right.now.rows in
    IfOk-weaker c.pair_rows.result (λ rows. IsSameBag rows.rows (minus nat_eq left right)) (λ rows. (p : ℕ → Bool) → all_pass p left ≡ true → all_pass p rows.rows ≡ true)
    (λ rows is p h. bag_pass p rows.rows (minus nat_eq left right) is (minus_pass p left right h)) (returns-clause-rows g c)
