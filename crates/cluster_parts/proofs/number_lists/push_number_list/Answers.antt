use Rattle.std.proofs.Common.{◌++◌, ap, ◌∙◌}
use Rattle.cluster_parts.specs.NumberList.{in_bytes, width}
use Rattle.cluster_parts.proofs.NumberListSteps.{list_written}
use Rattle.cluster_parts.proofs.number_lists.push_number_list.Goals as goal

pub returns : goal.returns
returns c = record {
  appended = list_written c.args.numbers.now c.in_ok-found.found.items c.width_of-count.result _ _ _ c.in_ok-found.ensures.differences (c.width_of-count.ensures.value ∙ ap width c.as_slice.ensures.value)
      c.in_ok-push.ensures.items
      (c.in_ok-push_in_bytes.ensures.appended ∙ ap (λ l. c.push.new.self.items ++ in_bytes c.width_of-count.result l) c.as_slice-2.ensures.value);
}
