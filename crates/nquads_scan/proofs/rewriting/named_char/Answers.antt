use Rattle.std.proofs.Common.{◌≡◌, ◌+◌, ◌-◌, ◌*◌, length, drop, get_or, arith, refl}
use Rattle.std.proofs.lemmas.Bool.{lt-ltb}
use Rattle.std.proofs.lemmas.List.{drop_more}
use Rattle.rdf_core.proofs.HexSteps.{below_32_bits, goes_on, one_more_fits}
use Rattle.nquads_scan.proofs.RewritingSteps.{scalar_named}
use Rattle.nquads_scan.proofs.rewriting.named_char.Goals as goal

pub loop-b-init : goal.loop-b-init
loop-b-init c = record { left = (let e : length c.args.digits.now - 0 ≡ length c.args.digits.now = omega arith in rw e refl); fits = omega arith }

pub overflow_mul-value : goal.overflow_mul-value
overflow_mul-value c =
    let one = one_more_fits c.loop-b.b-index c.loop-b.value 0 (omega arith) c.loop-b.invariant.fits (omega arith) in
    let all = below_32_bits c.loop-b.b-index (c.loop-b.value * 16 + 0) (omega arith) one in
    omega arith

pub overflow_add-value : goal.overflow_add-value
overflow_add-value c =
    let e = c.in_ok-digit.ensures.value in
    let one = one_more_fits c.loop-b.b-index c.loop-b.value c.in_ok-digit.digit (omega arith) c.loop-b.invariant.fits (rw e.1 e.0) in
    let all = below_32_bits c.loop-b.b-index (c.loop-b.value * 16 + c.in_ok-digit.digit) (omega arith) one in
    omega arith

pub loop-b-preserved : goal.loop-b-preserved
loop-b-preserved c =
    let digits = c.args.digits.now in
    let i = c.loop-b.b-index in
    let e = c.in_ok-digit.ensures.value in record {
      left = rw e.1 (goes_on (length digits) i c.loop-b.value (get_or digits i 0) (drop i digits) (drop (i + 1) digits) _ (omega arith) (drop_more digits i 0 (omega arith)) (lt-ltb _ _ e.0) c.loop-b.invariant.left);
      fits = one_more_fits i c.loop-b.value c.in_ok-digit.digit (omega arith) c.loop-b.invariant.fits (rw e.1 e.0);
    }

pub returns : goal.returns
returns c = scalar_named c.args.digits.now c.loop-b.b-index c.loop-b.value c.from_u32.result c.loop-b-test.false c.loop-b.invariant.left c.from_u32.ensures.value
