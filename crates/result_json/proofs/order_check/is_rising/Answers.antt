use Rattle.std.proofs.Common.{◌≡◌, ◌∙◌, ◌+◌, get_or, ap, sym, arith, is_lt}
use Rattle.algebra_model.proofs.RowOrderLaws.{derived, derived-is}
use Rattle.result_json.proofs.OrderSteps.{rising_more}
use Rattle.result_json.proofs.order_check.is_rising.Goals as goal

pub loop-k-preserved : goal.loop-k-preserved
loop-k-preserved c =
    let entries = c.args.entries.now in
    let k = c.loop-k.k in
    let x = c.index-entries-k.result in
    let y = c.index-entries-k-in-loop-k.result in
    let term = (get_or entries k x).0.now in
    let next = (get_or entries (k + 1) y).0.now in
    let compared : c.cmp.result ≡ derived next term = c.cmp.ensures in
    rising_more entries c.args.from k x y (omega (arith, c.requires.places, c.loop-k-test.true)) (ap is_lt (sym (derived-is next term)) ∙ ap is_lt (sym compared) ∙ sym c.is_lt.ensures ∙ c.if-is_lt.false) c.loop-k.invariant
