use Rattle.std.proofs.Common.{◌≡◌, ℕ, ◌+◌, ◌-◌, List, [], ◌∷◌, ◌++◌, length, ap, subst, ◌∙◌, arith}
use Rattle.std.proofs.lemmas.List.FromFn.{length-map-range_with_len}
use Rattle.row_join.specs.Places.{IsTableOf}
use Rattle.row_join.specs.Slots.{places_in, slot_at, slot_table}
use Rattle.row_join.specs.declared.column.CloseColumn.{CloseColumn}
use Rattle.row_join.proofs.SlotLaws.{AreGroups, groups-rising, groups-turn, joined_groups, slot_table-is}
use Rattle.row_join.proofs.numbered_places.NumberedPlaces.build.Goals as goal

abbrev group : CloseColumn → ℕ → List ℕ
group x s = places_in (slot_at x.rows.now.rows x.variable x.least x.span) (length x.rows.now.rows) s 0

pub loop-slot-preserved : goal.loop-slot-preserved
loop-slot-preserved c =
    let places = c.loop-slot.places.items in
    let count : c.len-in-loop-slot.result ≡ length c.add_to.new.places.items = omega (arith, c.len-in-loop-slot.ensures, c.add_to.new.places.ok.0) in
    groups-turn (group c.args.column.now) c.loop-slot.slot c.loop-slot.starts.items places c.push-in-loop-slot.new.self.items c.add_to.new.places.items c.loop-slot.invariant
    (c.in_ok-add_to.ensures.added ∙ ap (λ (x : CloseColumn). places ++ group x c.loop-slot.slot) c.in_ok-chains.ensures.column)
    (c.in_ok-push-2.ensures.items ∙ ap (λ (k : ℕ). c.loop-slot.starts.items ++ k ∷ []) count)

pub invariant_of-result : goal.invariant_of-result
invariant_of-result c =
    let starts = c.loop-slot.starts.items in
    let n = c.loop-slot.slot in
    let groups = c.loop-slot.invariant in
    let long : length starts ≡ n + 1 = ap length groups.starts_are ∙ length-map-range_with_len (λ s. length (joined_groups (group c.args.column.now) s)) 0 (n + 1) in
    (omega arith, groups-rising (group c.args.column.now) n starts c.loop-slot.places.items groups)

pub returns : goal.returns
returns c =
    let column = c.args.column.now in
    let starts = c.loop-slot.starts.items in
    let places = c.loop-slot.places.items in
    let n = c.loop-slot.slot in
    let groups = c.loop-slot.invariant in
    let same : c.in_ok-chains.chains.column.span ≡ column.span = ap (λ (x : CloseColumn). x.span) c.in_ok-chains.ensures.column in
    let all : n ≡ column.span + 1 = omega arith in
    let long : length starts ≡ n + 1 = ap length groups.starts_are ∙ length-map-range_with_len (λ s. length (joined_groups (group column) s)) 0 (n + 1) in
    let span : column.span ≡ length starts - 2 = omega arith in
    record {
      table = subst (λ (k : ℕ). IsTableOf (column.variable ∷ []) column.rows.now.rows (slot_table column.least k starts places)) span
          (slot_table-is column.rows.now.rows column.variable column.least column.span column.between starts places
          (subst (λ (k : ℕ). AreGroups (group column) k starts places) all groups));
    }
