use Rattle.std.proofs.Common.{◌∙◌, ◌++◌, length}
use Rattle.std.specs.Str.Parse.{digits_value}
use Rattle.term_values.proofs.ResidueLaws.{digits_done, places_done}
use Rattle.term_values.proofs.equality.size_key.Goals as goal

pub returns-clause-key : goal.returns-clause-key
returns-clause-key c =
    let number = c.args.number.now in
    let read = c.with_digits-digits.ensures.key ∙ digits_done number.whole.now number.fraction.now c.with_digits-whole.result c.with_digits-whole.ensures.key in
    c.tenths.ensures.key ∙ places_done c.with_digits-digits.result (digits_value 10 (number.whole.now ++ number.fraction.now)) (length number.fraction.now) read
