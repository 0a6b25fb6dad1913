use Rattle.std.proofs.Common.{◌≡◌, ◌++◌, ◌-◌, ◌<◌, ◌≤◌, length}
use Rattle.row_join.specs.Slots.{places_in, slot_at}
use Rattle.row_join.proofs.chains.Chains.add_to.Given as goal

abbrev pub invariant-loop-place : goal.invariant-loop-place
invariant-loop-place l =
    let column = l.self.column in
    let slots = slot_at column.rows.now.rows column.variable column.least column.span in
    let count = length column.rows.now.rows in
    record {
      low : l.place ≤ count;
      here : l.place < count → slots l.place ≡ l.fn.slot;
      added : l.places.items ++ places_in slots count l.fn.slot l.place ≡ l.initial.places.items ++ places_in slots count l.fn.slot 0;
    }

abbrev pub decreases-loop-place : goal.decreases-loop-place
decreases-loop-place l = length l.self.next.items - l.place
