use Rattle.std.proofs.Common.{◌≡◌, ℕ, ◌+◌, ◌-◌, ◌<◌, length, set, sym, subst, ◌∙◌, arith}
use Rattle.std.proofs.lemmas.List.{get_or_read, length-set}
use Rattle.row_join.specs.Slots.{AreLinked, slot_at}
use Rattle.row_join.proofs.SlotLaws.{linked-turn}
use Rattle.row_join.proofs.chains.Chains.build.Goals as goal

pub loop-place-preserved : goal.loop-place-preserved
loop-place-preserved c =
    let column = c.args.column.now in
    let rows = column.rows.now.rows in
    let slots = slot_at rows column.variable column.least column.span in
    let was = c.loop-place.invariant in
    let first = c.loop-place.first.items in
    let next = c.loop-place.next.items in
    let place = c.loop-place.place - 1 in
    let slot = c.slot-slot.result in
    let above : c.loop-place.place ≡ place + 1 = omega arith in
    let low : place < length rows = omega arith in
    let inside : slot < length first = (let w = c.slot-slot.ensures.within in let k = was.slots in omega arith) in
    record {
      slots = length-set first slot place ∙ was.slots;
      linked =
          subst (λ (k : ℕ). AreLinked slots (length rows) place (set first slot place) (set next place k))
          (sym (get_or_read first slot _ inside c.index.ensures 0))
          (linked-turn slots (length rows) first next place slot low c.slot-slot.ensures.value inside
          (subst (λ (k : ℕ). AreLinked slots (length rows) k first next) above was.linked));
    }
