use Rattle.std.proofs.Common.{◌==◌, ◌∙◌, ap, length}
use Rattle.term_values.proofs.NumberSteps.{no_digit_left}
use Rattle.term_values.proofs.number.are_zeros.Goals as goal

pub returns : goal.returns
returns c = record {
  value = c.is_empty.ensures ∙ ap (λ ds. length ds == 0) c.without_leading_zeros.ensures.value ∙ no_digit_left c.args.digits.now;
}
