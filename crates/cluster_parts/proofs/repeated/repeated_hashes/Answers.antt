use Rattle.std.proofs.Common.{◌++◌, ap, filter, length, map, nat_eq, subst, ◌∙◌}
use Rattle.indexmap.specs.IndexSet.{contains}
use Rattle.cluster_parts.specs.Known.{items_of}
use Rattle.cluster_parts.specs.NumberList.{FitInEightBytes, number_list}
use Rattle.cluster_parts.specs.Repeated.{is_repeated, numbers_of, single}
use Rattle.cluster_parts.specs.Seal.{all_sealed}
use Rattle.cluster_parts.proofs.PartSteps.{repeated_lists}
use Rattle.cluster_parts.proofs.repeated.repeated_hashes.Goals as goal

pub returns : goal.returns
returns c =
    let lists = items_of c.in_ok-lists.lists.items in
    let fit = subst (λ l. FitInEightBytes (numbers_of (items_of l))) c.as_slice.ensures.value c.in_ok-count.ensures.fit in
    let again = contains nat_eq c.in_ok-count.again in record {
      found = (
        lists,
        fit,
        c.in_ok-lists.ensures.lists,
        repeated_lists again c.in_ok-count.count lists _ _ _
            (c.in_ok-count.ensures.single ∙ ap (λ l. length (single (numbers_of (items_of l)))) c.as_slice.ensures.value)
            (λ n. c.in_ok-count.ensures.again n ∙ ap (λ l. is_repeated (numbers_of (items_of l)) n) c.as_slice.ensures.value)
            c.new-out.ensures.items c.in_ok-push_sealed_number.ensures.appended
            (c.in_ok-push_lists_in.ensures.appended
            ∙ ap (λ l. c.push_sealed_number.new.out.items ++ all_sealed (map (λ list. number_list (filter again list)) (items_of l))) c.as_slice-2.ensures.value),
      );
      read = (lists, (c.in_ok-lists.ensures.ascending, fit), c.in_ok-lists.ensures.lists);
      fault = tt;
    }
