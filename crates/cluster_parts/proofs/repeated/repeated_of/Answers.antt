use Rattle.std.proofs.Common.{ap, ◌∙◌}
use Rattle.cluster_parts.specs.Known.{items_of}
use Rattle.cluster_parts.specs.Repeated.{is_repeated, numbers_of}
use Rattle.cluster_parts.proofs.RepeatedLaws.{length_single, repeated_moved}
use Rattle.cluster_parts.proofs.repeated.repeated_of.Goals as goal

pub returns : goal.returns
returns c =
    let numbers = numbers_of (items_of c.args.lists.now) in
    let sorted = c.in_ok-numbers.numbers.items in record {
      single = c.count_single.ensures.count ∙ length_single numbers sorted c.in_ok-numbers.ensures.same;
      again = λ n. c.in_ok-again.ensures.again n ∙ ap (λ l. is_repeated l n) c.as_slice.ensures.value ∙ repeated_moved numbers sorted c.in_ok-numbers.ensures.same n;
      fit = c.in_ok-numbers.ensures.fit;
    }
