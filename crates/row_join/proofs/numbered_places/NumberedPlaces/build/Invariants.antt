use Rattle.std.proofs.Common.{length}
use Rattle.row_join.specs.Slots.{places_in, slot_at}
use Rattle.row_join.proofs.SlotLaws.{AreGroups}
use Rattle.row_join.proofs.numbered_places.NumberedPlaces.build.Given as goal

abbrev pub invariant-loop-slot : goal.invariant-loop-slot
invariant-loop-slot l =
    AreGroups (λ s. places_in (slot_at l.column.rows.now.rows l.column.variable l.column.least l.column.span) (length l.column.rows.now.rows) s 0) l.slot l.starts.items l.places.items
