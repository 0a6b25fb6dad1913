use Rattle.std.proofs.Common.{◌≡◌, ℕ, Bool, true, nat_eq, flat_map}
use Rattle.std.proofs.lemmas.Bool.Decides.{Decides-eqb}
use Rattle.std.proofs.lemmas.List.Sorted.{IsPermutation-trans}
use Rattle.std.proofs.lemmas.Result.{IfOk-weaker}
use Rattle.algebra_model.specs.Bag.{IsSameBag}
use Rattle.algebra_model.specs.Operators.{left_join}
use Rattle.algebra_model.specs.Solve.{left_row}
use Rattle.algebra_model.proofs.CongruenceLaws.{left_join-by_row}
use Rattle.row_join.specs.Numbers.{all_pass}
use Rattle.row_join.proofs.NumberLaws.{bag_pass, left_join_pass}
use Rattle.row_join.proofs.left_joins.left_join.Goals as goal

pub returns-clause-rows : goal.returns-clause-rows
returns-clause-rows g c =
    let keeps = g.T.RowTest.keeps c.args.test.now in
    let left = c.args.left.now.rows in
    let right = c.args.right.now.rows in
    IfOk-weaker c.pair_rows.result (λ rows. IsSameBag rows.rows (flat_map (left_row nat_eq keeps right) left)) (λ rows. IsSameBag rows.rows (left_join nat_eq keeps left right))
    (λ rows is. IsPermutation-trans rows.rows (flat_map (left_row nat_eq keeps right) left) (left_join nat_eq keeps left right) is (left_join-by_row nat_eq Decides-eqb keeps right left)) c.pair_rows.ensures.rows

pub returns-clause-numbers : goal.returns-clause-numbers
returns-clause-numbers g c =
    let keeps = g.T.RowTest.keeps c.args.test.now in
    let left = c.args.left.now.rows in
    let right = c.args.right.now.rows in
    IfOk-weaker c.pair_rows.result (λ rows. IsSameBag rows.rows (left_join nat_eq keeps left right))
    (λ rows. (p : ℕ → Bool) → all_pass p left ≡ true → all_pass p right ≡ true → all_pass p rows.rows ≡ true)
    (λ rows is p h k. bag_pass p rows.rows (left_join nat_eq keeps left right) is (left_join_pass p keeps left right h k)) (returns-clause-rows g c)
