use Rattle.rdf_core.proofs.TermLaws.{term_eq, term_decides}
use Rattle.algebra_model.proofs.CongruenceLaws as bags
use Rattle.algebra_model.proofs.laws.equal_bags_give_equal_bags.Goals as goal

pub returns-clause-join : goal.returns-clause-join
returns-clause-join c = bags.join-IsSameBag term_eq term_decides

pub returns-clause-left_join : goal.returns-clause-left_join
returns-clause-left_join c = bags.left_join-IsSameBag term_eq term_decides

pub returns-clause-minus : goal.returns-clause-minus
returns-clause-minus c = bags.minus-IsSameBag term_eq term_decides

pub returns-clause-union : goal.returns-clause-union
returns-clause-union c = bags.union-IsSameBag term_eq term_decides

pub returns-clause-filter : goal.returns-clause-filter
returns-clause-filter c = bags.filter-IsSameBag term_eq term_decides

pub returns-clause-extend : goal.returns-clause-extend
returns-clause-extend c = bags.extend-IsSameBag

pub returns-clause-project : goal.returns-clause-project
returns-clause-project c = bags.project-IsSameBag

pub returns-clause-distinct : goal.returns-clause-distinct
returns-clause-distinct c = bags.distinct-IsSameBag term_eq term_decides

pub returns-clause-table : goal.returns-clause-table
returns-clause-table c = bags.table-IsSameBag
