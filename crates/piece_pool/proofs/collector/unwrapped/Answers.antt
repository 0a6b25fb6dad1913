use Rattle.std.proofs.Common.{◌≡◌, rules, arith, suc, subst, refl, ap, length, get_or, None, IsSome, append_assoc}
use Rattle.std.specs.Vec.Iter.{into_iter_items}
use Rattle.std.proofs.lemmas.List.{map-append}
use Rattle.piece_pool.proofs.SlotSteps.{IsSome-none, all_moved}
use Rattle.piece_pool.proofs.collector.unwrapped.Goals as goal

pub loop-slot-preserved : goal.loop-slot-preserved
loop-slot-preserved g c =
    let was = c.loop-slot.invariant in
    let steps = c.in-Some.ensures.steps in
    let joined = rw steps.0 at was.joined in record {
      room = search rules;
      joined = rw (c.push_reserved.ensures.items, map-append, append_assoc, ← c.in-Some-slot.is) joined;
      some = λ k low. subst (λ xs. IsSome (get_or xs (suc k) None)) steps.0 (was.some (suc k) (omega arith));
    }

pub loop-slot-init : goal.loop-slot-init
loop-slot-init g c =
    let made = c.in_ok-outs.ensures in
    let rest = c.into_iter-slot-iterator.result.rest in
    let items = c.into_iter-slot-iterator.ensures.into_iter_gives.0 in record {
      room = omega (arith, made.len, made.capacity, c.len.ensures, rest.ok.0, ap length items, c.args.slots.ok.0);
      joined = rw (made.items, items) refl;
      some = λ k low. rw items (c.requires.full k (omega (arith, low, rest.ok.0, ap length items, c.args.slots.ok.0)));
    }

pub unreachable-requires : goal.unreachable-requires
unreachable-requires g c =
    let steps = c.in-Some.ensures.steps in
    let some = subst (λ xs. IsSome (get_or xs 0 None)) steps.0 (c.loop-slot.invariant.some 0 (omega (arith, c.loop-slot.slot-iterator.rest.ok.0, ap length steps.0))) in
    IsSome-none c.in-Some.slot some c.in_default.is

pub returns : goal.returns
returns g c =
    let left = into_iter_items c.loop-slot.slot-iterator in
    let none : length left ≡ 0 = omega (arith, c.loop-slot.slot-iterator.rest.ok.0, c.in-None.ensures.steps.0) in
    record { values = all_moved _ left _ c.loop-slot.invariant.joined none }
