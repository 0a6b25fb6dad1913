use Rattle.std.proofs.Common.{◌<◌, map, filter, ◌++◌, nat_eq, refl, sym}
use Rattle.std.proofs.lemmas.Bool.Decides.{Decides-eqb}
use Rattle.std.proofs.lemmas.List.{map-append}
use Rattle.rdf_core.proofs.TermLaws.{term_eq, term_decides}
use Rattle.algebra_model.specs.Operators.{join, left_join, minus, extend, project, distinct, table}
use Rattle.algebra_model.specs.Renaming.{read_row}
use Rattle.algebra_model.proofs.BagLaws.{same_bag}
use Rattle.algebra_model.proofs.NumberLaws.{equal_when_read, nothing_asked_of_all}
use Rattle.algebra_model.proofs.ReadingLaws.{join-read, minus-read, filter-read}
use Rattle.algebra_model.proofs.OperatorReadingLaws.{left_join-read, extend-read, project-read, distinct-read, table-read}
use Rattle.algebra_model.proofs.BgpReadingLaws.{bgp-read}
use Rattle.algebra_model.proofs.laws.numbers_denote_terms.Goals as goal

pub returns-clause-pattern : goal.returns-clause-pattern
returns-clause-pattern c = λ n f h. bgp-read nat_eq term_eq (λ x. x < n) f (equal_when_read n f h) Decides-eqb term_decides

pub returns-clause-join : goal.returns-clause-join
returns-clause-join c = λ n f h A B i j.
    same_bag (map (read_row f) (join nat_eq A B)) (join term_eq (map (read_row f) A) (map (read_row f) B)) (sym (join-read nat_eq term_eq (λ x. x < n) f (equal_when_read n f h) A B i j))

pub returns-clause-left_join : goal.returns-clause-left_join
returns-clause-left_join c = λ n f h keeps A B i j.
    same_bag (map (read_row f) (left_join nat_eq (λ μ. keeps (read_row f μ)) A B)) (left_join term_eq keeps (map (read_row f) A) (map (read_row f) B))
    (sym (left_join-read nat_eq term_eq (λ x. x < n) f (equal_when_read n f h) keeps (λ μ. keeps (read_row f μ)) (λ μ e. refl) A B i j))

pub returns-clause-minus : goal.returns-clause-minus
returns-clause-minus c = λ n f h A B i j.
    same_bag (map (read_row f) (minus nat_eq A B)) (minus term_eq (map (read_row f) A) (map (read_row f) B)) (sym (minus-read nat_eq term_eq (λ x. x < n) f (equal_when_read n f h) A B i j))

pub returns-clause-union : goal.returns-clause-union
returns-clause-union c = λ f A B. same_bag (map (read_row f) (A ++ B)) (map (read_row f) A ++ map (read_row f) B) (map-append (read_row f) A B)

pub returns-clause-filter : goal.returns-clause-filter
returns-clause-filter c = λ f keeps A.
    same_bag (map (read_row f) (filter (λ μ. keeps (read_row f μ)) A)) (filter keeps (map (read_row f) A))
    (sym (filter-read (λ x y. term_eq (f x) (f y)) term_eq (λ _. Unit {0}) f (λ x y i j. refl) keeps (λ μ. keeps (read_row f μ)) (λ μ e. refl) A (nothing_asked_of_all A)))

pub returns-clause-extend : goal.returns-clause-extend
returns-clause-extend c = λ f number value v A e.
    same_bag (map (read_row f) (extend v number A)) (extend v value (map (read_row f) A))
    (sym (extend-read (λ x y. term_eq (f x) (f y)) term_eq (λ _. Unit {0}) f (λ x y i j. refl) v value number A e))

pub returns-clause-project : goal.returns-clause-project
returns-clause-project c = λ f vs A.
    same_bag (map (read_row f) (project vs A)) (project vs (map (read_row f) A)) (sym (project-read (λ x y. term_eq (f x) (f y)) term_eq (λ _. Unit {0}) f (λ x y i j. refl) vs A))

pub returns-clause-distinct : goal.returns-clause-distinct
returns-clause-distinct c = λ n f h A i.
    same_bag (map (read_row f) (distinct nat_eq A)) (distinct term_eq (map (read_row f) A)) (sym (distinct-read nat_eq term_eq (λ x. x < n) f (equal_when_read n f h) A i))

pub returns-clause-table : goal.returns-clause-table
returns-clause-table c = λ f w vs rows.
    same_bag (map (read_row f) (table w vs rows)) (table w vs (map (read_row f) rows)) (sym (table-read (λ x y. term_eq (f x) (f y)) term_eq (λ _. Unit {0}) f (λ x y i j. refl) w vs rows))
