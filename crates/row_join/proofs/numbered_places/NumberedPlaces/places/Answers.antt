use Rattle.std.proofs.Common.{◌+◌, ◌-◌, ◌<◌, length, get_or, ◌∙◌, arith}
use Rattle.row_join.specs.Slots.{group_at}
use Rattle.row_join.proofs.SlotLaws.{found, not_found}
use Rattle.row_join.proofs.numbered_places.NumberedPlaces.places.Goals as goal

pub returns-then-numbers-ne1 : goal.returns-then-numbers-ne1
returns-then-numbers-ne1 c =
    let p = c.self.inside in
    record { value = not_found p.least _ c.args.numbers.now p.starts.items p.places.items _ c.self.view_is (λ has. let e = has.0 in omega arith) }

pub returns-then-number-self : goal.returns-then-number-self
returns-then-number-self c =
    let p = c.self.inside in
    record { value = not_found p.least _ c.args.numbers.now p.starts.items p.places.items _ c.self.view_is (λ has. let from = has.1 in omega arith) }

pub returns-then-slot-span : goal.returns-then-slot-span
returns-then-slot-span c =
    let p = c.self.inside in
    let count = p.starts.ok.0 in
    record { value = not_found p.least _ c.args.numbers.now p.starts.items p.places.items _ c.self.view_is (λ has. let low = has.2 in omega arith) }

pub returns : goal.returns
returns c =
    let p = c.self.inside in
    let n = get_or c.args.numbers.now 0 0 in
    let count = p.starts.ok.0 in
    let low : n < p.least + (length p.starts.items - 2) = omega arith in
    record {
      value = c.group_at.ensures.value ∙ (λ j. group_at (c.deref.ensures.value j) (c.deref-2.ensures.value j) (n - p.least))
          ∙ found p.least _ c.args.numbers.now p.starts.items p.places.items _ c.self.view_is (c.if-numbers-ne1.false, c.if-number-self.false, low);
    }
