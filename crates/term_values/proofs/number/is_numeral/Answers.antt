use Rattle.std.proofs.Common.{◌≡◌, ◌==◌, ◌∙◌, sym, false, length}
use Rattle.term_values.proofs.NumberSteps.{whole_is_numeral, whole_is_not}
use Rattle.term_values.proofs.number.is_numeral.Goals as goal

pub returns-then-are_digits : goal.returns-then-are_digits
returns-then-are_digits c =
    let some : (length c.args.whole.now == 0) ≡ false = cc in
    let h = whole_is_numeral c.args.whole.now c.args.fraction.now some (sym c.are_digits-else-is_empty.ensures.value ∙ c.if-are_digits.true) in
    record { value = c.are_digits-then-are_digits.ensures.value ∙ sym h }

pub returns-else-are_digits : goal.returns-else-are_digits
returns-else-are_digits c =
    let some : (length c.args.whole.now == 0) ≡ false = cc in
    let h = whole_is_not c.args.whole.now c.args.fraction.now some (sym c.are_digits-else-is_empty.ensures.value ∙ c.if-are_digits.false) in
    record { value = c.if-are_digits.false ∙ sym h }
