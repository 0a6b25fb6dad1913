use Rattle.std.proofs.Common.{◌++◌, IsSorted, ap, nat_cmp, subst, sym, ◌∙◌}
use Rattle.cluster_parts.specs.NumberList.{number_list}
use Rattle.cluster_parts.proofs.number_lists.numbers_of.Goals as goal

pub returns-clause-numbers : goal.returns-clause-numbers
returns-clause-numbers c =
    let read = c.in_ok-push_numbers.ensures.appended in
    read.1 ∙ ap number_list (sym (read.2 ∙ ap (λ l. l ++ read.0) c.new-numbers.ensures.items))

pub returns-clause-ascending : goal.returns-clause-ascending
returns-clause-ascending c =
    let read = c.in_ok-push_numbers.ensures.appended in
    subst (IsSorted nat_cmp) (sym (read.2 ∙ ap (λ l. l ++ read.0) c.new-numbers.ensures.items)) read.3
