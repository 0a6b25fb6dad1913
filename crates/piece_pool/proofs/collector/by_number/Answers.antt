use Rattle.std.proofs.Common.{arith, suc, refl, Contains, inl, inr, ⊎_elim}
use Rattle.std.proofs.lemmas.List.{length-map}
use Rattle.std.proofs.lemmas.List.Elements.{All-contains_itself}
use Rattle.piece_pool.proofs.SlotSteps.{Contains-cons_cases, IfSome-set, covered-set, empty_more, IsSomeAnd-both}
use Rattle.piece_pool.proofs.collector.by_number.Goals as goal

pub loop-i-init : goal.loop-i-init
loop-i-init g c = record {
  count = omega (arith, c.loop.invariant.count, c.loop-test.false, c.loop.auto.counter-end);
  held = λ i. rw (c.loop.invariant.empty i) tt;
  rest = rw c.into_iter-i-iterator.ensures.into_iter_gives.0 (All-contains_itself c.args.outs.items);
  covered = λ i low. inr (rw c.into_iter-i-iterator.ensures.into_iter_gives.0 (c.requires.all i low));
}

pub loop-i-preserved-then-i-n : goal.loop-i-preserved-then-i-n
loop-i-preserved-then-i-n g c =
    let was = c.loop-i.invariant in
    let steps = c.in-Some.ensures.steps in
    let all = rw steps.0 at was.rest in
    let left = rw steps.0 at was.covered in record {
      count = was.count;
      held = IfSome-set c.loop-i.slots.items (λ i out. Contains c.args.outs.items (i, out)) c.in-Some.i c.in-Some.out was.held (all 0 (c.in-Some.i, c.in-Some.out) (omega arith));
      rest = λ k d below. all (suc k) d (omega arith);
      covered = λ i low. covered-set c.loop-i.slots.items c.in-Some.i c.in-Some.out _ i (omega (arith, low, was.count, c.loop-i.slots.ok.0)) (left i low);
    }

pub loop-i-preserved-then-i-n-2 : goal.loop-i-preserved-then-i-n-2
loop-i-preserved-then-i-n-2 g c =
    let was = c.loop-i.invariant in
    let steps = c.in-Some.ensures.steps in
    let all = rw steps.0 at was.rest in
    let left = rw steps.0 at was.covered in record {
      count = was.count;
      held = IfSome-set c.loop-i.slots.items (λ i out. Contains c.args.outs.items (i, out)) c.in-Some.i c.in-Some.out was.held (all 0 (c.in-Some.i, c.in-Some.out) (omega arith));
      rest = λ k d below. all (suc k) d (omega arith);
      covered = λ i low. covered-set c.loop-i.slots.items c.in-Some.i c.in-Some.out _ i (omega (arith, low, was.count, c.loop-i.slots.ok.0)) (left i low);
    }

pub loop-i-preserved : goal.loop-i-preserved
loop-i-preserved g c =
    let was = c.loop-i.invariant in
    let steps = c.in-Some.ensures.steps in
    let all = rw steps.0 at was.rest in
    let left = rw steps.0 at was.covered in record {
      count = was.count;
      held = was.held;
      rest = λ k d below. all (suc k) d (omega arith);
      covered = λ i low. ⊎_elim inl (λ h. ⊎_elim (λ is. absurd (omega (arith, is))) inr (Contains-cons_cases c.in-Some.i _ i h)) (left i low);
    }

pub returns-clause-each : goal.returns-clause-each
returns-clause-each g c i low =
    let was = c.loop-i.invariant in
    let steps = c.in-None.ensures.steps in
    let rest = c.loop-i.i-iterator.rest in
    IsSomeAnd-both _ _ (⊎_elim (λ some. some) (λ none. absurd (omega (arith, none.1, length-map rest.items (λ p. p.0), rest.ok.0, steps.0))) (was.covered i low)) (was.held i)

pub loop-init : goal.loop-init
loop-init g c =
    let made = c.in_ok-slots.ensures in record {
      count = made.len;
      room = omega (arith, made.capacity);
      empty = λ i. rw made.items refl;
    }

pub loop-preserved : goal.loop-preserved
loop-preserved g c =
    let was = c.loop.invariant in
    let pushed = c.push_reserved.ensures in record {
      count = omega (arith, was.count, pushed.len);
      room = omega (arith, was.room, pushed.capacity);
      empty = λ i. rw pushed.items (empty_more c.loop.slots.items was.empty i);
    }

pub returns-clause-count : goal.returns-clause-count
returns-clause-count g c = c.loop-i.invariant.count
