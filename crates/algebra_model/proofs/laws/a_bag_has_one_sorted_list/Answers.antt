use Rattle.std.proofs.Common.{map}
use Rattle.std.proofs.lemmas.List.Sorted.{IsPermutation-map}
use Rattle.algebra_model.specs.RowOrder.{cells, cells_cmp}
use Rattle.algebra_model.proofs.RowOrderLaws.{rows_equal, cells_cmp_total, cells_equal}
use Rattle.algebra_model.proofs.SortedLaws.{sorted_permutation, sorted_rises, sorted_is, sorted_of_bag}
use Rattle.algebra_model.proofs.laws.a_bag_has_one_sorted_list.Goals as goal

pub returns-clause-ties : goal.returns-clause-ties
returns-clause-ties c = rows_equal

pub returns-clause-bag : goal.returns-clause-bag
returns-clause-bag c = λ vs A. sorted_permutation cells_cmp cells_cmp_total cells_equal (map (cells vs) A)

pub returns-clause-rising : goal.returns-clause-rising
returns-clause-rising c = λ vs A. sorted_rises cells_cmp cells_cmp_total cells_equal (map (cells vs) A)

pub returns-clause-unique : goal.returns-clause-unique
returns-clause-unique c = λ vs A rows h k. sorted_is cells_cmp cells_cmp_total cells_equal (map (cells vs) A) rows h k

pub returns-clause-same : goal.returns-clause-same
returns-clause-same c = λ vs A B h. sorted_of_bag cells_cmp cells_cmp_total cells_equal (map (cells vs) A) (map (cells vs) B) (IsPermutation-map (cells vs) A B h)
