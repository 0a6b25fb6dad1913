use Rattle.std.proofs.Common.{◌≡◌, get_or, slice_get, Some, arith}
use Rattle.std.proofs.lemmas.Option.{slice_get-get_or}
use Rattle.term_values.proofs.ResidueLaws.{digit_range, digit_step}
use Rattle.term_values.proofs.equality.with_digits.Goals as goal

pub digit_number-requires : goal.digit_number-requires
digit_number-requires c =
    let digits = c.args.digits.now in
    let at : slice_get digits c.loop-i.i ≡ Some (get_or digits c.loop-i.i 0) = slice_get-get_or digits c.loop-i.i 0 (omega arith) in
    let r = digit_range digits c.loop-i.i (get_or digits c.loop-i.i 0) c.requires.digits at in
    record { first = r.0; last = r.1 }

pub loop-i-preserved : goal.loop-i-preserved
loop-i-preserved c =
    let digits = c.args.digits.now in
    let at : slice_get digits c.loop-i.i ≡ Some (get_or digits c.loop-i.i 0) = slice_get-get_or digits c.loop-i.i 0 (omega arith) in
    digit_step digits c.loop-i.i (get_or digits c.loop-i.i 0) c.digit_number.result c.args.before c.loop-i.key at c.requires.digits c.digit_number.ensures.value c.loop-i.invariant
