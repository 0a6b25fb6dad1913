use Rattle.std.proofs.Common.{◌≡◌, ◌+◌, ◌-◌, ◌*◌, arith, refl}
use Rattle.std.specs.Str.{chars}
use Rattle.std.proofs.lemmas.Bool.{lt-ltb}
use Rattle.rdf_core.proofs.HexSteps.{ends, stops, goes_on, is_done, one_more_fits, below_32_bits, no_digit}
use Rattle.rdf_core.proofs.lexical.escapes.hex_digits.Goals as goal

pub loop-init : goal.loop-init
loop-init c = record { utf8 = c.utf8.text; left = (let e : c.args.count - 0 ≡ c.args.count = omega arith in rw e refl); fits = omega arith }

pub first_char-requires-text-text : goal.first_char-requires-text-text
first_char-requires-text-text c κs = c.loop.invariant.utf8

pub fact_in-rest : goal.fact_in-rest
fact_in-rest c = c.loop.invariant.utf8

pub returns-in_err-c-clause-value : goal.returns-in_err-c-clause-value
returns-in_err-c-clause-value c =
    rw c.from_residual.ensures (ends c.args.count c.loop.counter c.loop.value (chars c.loop.rest.now) _ c.loop-test.true c.in_err-c.ensures c.loop.invariant.left)

pub returns-in_err-digit-clause-value : goal.returns-in_err-digit-clause-value
returns-in_err-digit-clause-value c =
    rw c.from_residual-in_err-digit.ensures (stops c.args.count c.loop.counter c.loop.value c.in_ok-c.c (chars c.loop.rest.now) (chars c.in_ok-c.after.now) _ c.loop-test.true c.in_ok-c.ensures.0 (no_digit _ c.in_err-digit.ensures.value) c.loop.invariant.left)

pub overflow_mul-value : goal.overflow_mul-value
overflow_mul-value c =
    let one = one_more_fits c.loop.counter c.loop.value 0 (omega arith) c.loop.invariant.fits (omega arith) in
    let all = below_32_bits c.loop.counter (c.loop.value * 16 + 0) (omega arith) one in
    omega arith

pub overflow_add-value : goal.overflow_add-value
overflow_add-value c =
    let e = c.in_ok-digit.ensures.value in
    let one = one_more_fits c.loop.counter c.loop.value c.in_ok-digit.digit (omega arith) c.loop.invariant.fits (rw e.1 e.0) in
    let all = below_32_bits c.loop.counter (c.loop.value * 16 + c.in_ok-digit.digit) (omega arith) one in
    omega arith

pub loop-preserved : goal.loop-preserved
loop-preserved c =
    let e = c.in_ok-digit.ensures.value in
    record {
      utf8 = c.in_ok-c.ensures.1;
      left = rw e.1 (goes_on c.args.count c.loop.counter c.loop.value c.in_ok-c.c (chars c.loop.rest.now) (chars c.in_ok-c.after.now) _ c.loop-test.true c.in_ok-c.ensures.0 (lt-ltb _ _ e.0) c.loop.invariant.left);
      fits = one_more_fits c.loop.counter c.loop.value c.in_ok-digit.digit (omega arith) c.loop.invariant.fits (rw e.1 e.0);
    }

pub returns-clause-value : goal.returns-clause-value
returns-clause-value c = is_done c.args.count c.loop.counter c.loop.value (chars c.loop.rest.now) _ c.loop-test.false c.loop.invariant.left
