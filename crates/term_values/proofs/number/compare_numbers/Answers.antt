use Rattle.std.proofs.Common.{◌∙◌, sym}
use Rattle.term_values.specs.NumberShown.{number_shown}
use Rattle.term_values.proofs.SignLaws.{same_sign, other_sign, other_sign', positive_order, negative_order, mixed_less, mixed_greater}
use Rattle.term_values.proofs.number.compare_numbers.Goals as goal

pub returns-then-left : goal.returns-then-left
returns-then-left c = record {
  order = c.compare_sizes.ensures.order ∙ negative_order c.args.left.now c.args.right.now c.if-left.true
      (same_sign c.args.left.now.negative c.args.right.now.negative _ c.if-left-right.true c.if-left.true);
}

pub returns-else-left : goal.returns-else-left
returns-else-left c = record {
  order = c.compare_sizes-else-left.ensures.order ∙ positive_order c.args.left.now c.args.right.now c.if-left.false
      (same_sign c.args.left.now.negative c.args.right.now.negative _ c.if-left-right.true c.if-left.false);
}

pub returns-then-left-2 : goal.returns-then-left-2
returns-then-left-2 c = record {
  order = mixed_less (number_shown c.args.left.now) (number_shown c.args.right.now) c.if-left-2.true
      (other_sign c.args.left.now.negative c.args.right.now.negative c.if-left-right.false c.if-left-2.true)
      (sym c.are_both_zero.ensures.zero ∙ c.if-are_both_zero.false);
}

pub returns-else-left-2 : goal.returns-else-left-2
returns-else-left-2 c = record {
  order = mixed_greater (number_shown c.args.left.now) (number_shown c.args.right.now) c.if-left-2.false
      (other_sign' c.args.left.now.negative c.args.right.now.negative c.if-left-right.false c.if-left-2.false)
      (sym c.are_both_zero.ensures.zero ∙ c.if-are_both_zero.false);
}
