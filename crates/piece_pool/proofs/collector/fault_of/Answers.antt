use Rattle.std.proofs.Common.{arith, suc, subst, Contains, ⊎_elim}
use Rattle.std.proofs.lemmas.List.{length-map}
use Rattle.std.proofs.lemmas.List.Elements.{All-contains_itself}
use Rattle.piece_pool.proofs.SlotSteps.{Contains-cons_cases}
use Rattle.piece_pool.proofs.collector.fault_of.Goals as goal

pub loop-i-init : goal.loop-i-init
loop-i-init g c = record {
  rest = rw c.into_iter-i-iterator.ensures.into_iter_gives.0 (All-contains_itself c.args.faults.items);
  left = rw c.into_iter-i-iterator.ensures.into_iter_gives.0 c.requires.there;
}

pub loop-i-preserved : goal.loop-i-preserved
loop-i-preserved g c =
    let was = c.loop-i.invariant in
    let steps = c.in-Some.ensures.steps in
    let all = rw steps.0 at was.rest in
    let left = rw steps.0 at was.left in record {
      rest = λ k d below. all (suc k) d (omega arith);
      left = ⊎_elim (λ is. absurd (c.if-i-piece.false is)) (λ there. there) (Contains-cons_cases c.in-Some.i _ c.args.piece left);
    }

pub returns-then-i-piece : goal.returns-then-i-piece
returns-then-i-piece g c =
    let all = rw c.in-Some.ensures.steps.0 at c.loop-i.invariant.rest in
    record { fault = subst (λ n. Contains c.args.faults.items (n, c.in-Some.fault)) c.if-i-piece.true (all 0 (c.in-Some.i, c.in-Some.fault) (omega arith)) }

pub unreachable-requires : goal.unreachable-requires
unreachable-requires g c =
    let rest = c.loop-i.i-iterator.rest in
    omega (arith, c.loop-i.invariant.left.1, length-map rest.items (λ p. p.0), rest.ok.0, c.in-None.ensures.steps.0)
