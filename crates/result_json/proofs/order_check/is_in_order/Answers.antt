use Rattle.std.proofs.Common.{◌≡◌, true, All, Bool, List, length, subst, arith}
use Rattle.std.proofs.lemmas.List.{length-map}
use Rattle.result_json.specs.Ranks.{Entry, terms_of}
use Rattle.result_json.proofs.OrderSteps.{pieces-rise}
use Rattle.result_json.proofs.order_check.is_in_order.Goals as goal

pub returns-clause-rising : goal.returns-clause-rising
returns-clause-rising g c sorted =
    let all = rw c.in-All.is at c.in_ok-found.ensures.outcome in
    let entries = c.args.entries.now in
    let count : length (terms_of entries) ≡ length entries = length-map entries (λ (e : Entry). e.0.now) in
    let each_true : All (λ value. value ≡ true) c.in-All.found.items = subst (λ (values : List Bool). All (λ value. value ≡ true) values) c.deref.ensures.value (c.all_true.ensures.all sorted) in
    pieces-rise (terms_of entries) c.worker_piece_size-size.result c.saturating_sub-count.result c.div_ceil-pieces.result c.in-All.found.items c.worker_piece_size-size.ensures.some (omega (arith, count, c.saturating_sub-count.ensures)) c.div_ceil-pieces.ensures all.count all.each each_true
