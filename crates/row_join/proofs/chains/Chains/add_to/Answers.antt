use Rattle.std.proofs.Common.{◌<◌, length, arith}
use Rattle.std.proofs.lemmas.List.{get_or_read}
use Rattle.row_join.specs.Slots.{slot_at}
use Rattle.row_join.proofs.SlotLaws.{added-turn}
use Rattle.row_join.proofs.chains.Chains.add_to.Goals as goal

pub loop-place-preserved : goal.loop-place-preserved
loop-place-preserved c =
    let chains = c.args.self.now in
    let column = chains.column in
    let rows = column.rows.now.rows in
    let place = c.loop-place.place in
    let was = c.loop-place.invariant in
    let long = chains.linked.long in
    let size = chains.next.ok.0 in
    let low : place < length rows = omega arith in
    let turn = added-turn (slot_at rows column.variable column.least column.span) (length rows) chains.first.items chains.next.items c.args.slot place c.index-in-loop-place.result.now
    c.loop-place.places.items c.push.new.self.items _ chains.linked low (was.here low)
    (get_or_read chains.next.items place _ (omega arith) c.index-in-loop-place.ensures 0) was.added c.in_ok-push.ensures.items in
    record { added = turn.0; low = turn.1; here = turn.2 }
