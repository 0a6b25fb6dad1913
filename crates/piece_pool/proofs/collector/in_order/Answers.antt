use Rattle.std.proofs.Common.{arith, ◌≡◌, ap, subst, sym, length, get_or, Some, None, IsSomeAnd, Contains}
use Rattle.std.proofs.lemmas.List.{length-map}
use Rattle.piece_pool.proofs.SlotSteps.{get_or-map_some}
use Rattle.piece_pool.proofs.collector.in_order.Goals as goal

pub returns : goal.returns
returns g c =
    let v = c.in_ok-ordered.ordered in
    let slots = c.in_ok-slots.slots in
    let same = c.in_ok-ordered.ensures.values in
    let count : length v.items ≡ c.args.n = omega (arith, ap length same, length-map v.items (λ x. Some x), slots.ok.0, c.in_ok-slots.ensures.count) in record {
      count = omega (arith, v.ok.0);
      each = λ i d low.
          let some = subst (λ xs. IsSomeAnd (get_or xs i None) (λ out. Contains c.args.outs.items (i, out))) (sym same) (c.in_ok-slots.ensures.each i low) in
          rw (get_or-map_some v.items i d (omega arith)) at some;
    }
