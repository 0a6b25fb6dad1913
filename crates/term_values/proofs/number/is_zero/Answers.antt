use Rattle.std.proofs.Common.{◌∙◌, sym}
use Rattle.term_values.proofs.SignLaws.{zero_when, not_zero_when}
use Rattle.term_values.proofs.number.is_zero.Goals as goal

pub returns-then-are_zeros : goal.returns-then-are_zeros
returns-then-are_zeros c =
    let h = zero_when c.args.number.now (sym c.are_zeros.ensures.value ∙ c.if-are_zeros.true) in
    record { zero = c.are_zeros-then-are_zeros.ensures.value ∙ h }

pub returns-else-are_zeros : goal.returns-else-are_zeros
returns-else-are_zeros c =
    let h = not_zero_when c.args.number.now (sym c.are_zeros.ensures.value ∙ c.if-are_zeros.false) in
    record { zero = c.if-are_zeros.false ∙ h }
