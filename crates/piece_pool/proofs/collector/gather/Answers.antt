use Rattle.std.proofs.Common.{arith, ◌≡◌, ℕ, get_or, ◌<◌, length}
use Rattle.std.proofs.lemmas.List.Elements.{All-contains}
use Rattle.piece_pool.proofs.CollectorSteps.{drawn-all, Contains-below_least, Contains-least, IsSettled-closed, Contains-pair, answer-at}
use Rattle.piece_pool.proofs.collector.gather.Goals as goal

pub fault_of-fault-requires : goal.fault_of-fault-requires
fault_of-fault-requires g c =
    let all = c.in_ok-passes.ensures.collected in
    let some : 0 < length c.in_ok-passes.field-0.passes.items = omega (arith, c.in_ok-passes.field-0.passes.ok.0, c.in_ok-passes.ensures.count, c.requires.all, c.in_ok-passes.ensures.some) in
    record { there = Contains-least _ _ _ _ _ _ _ _ all (IsSettled-closed _ _ _ _ _ c.close-closed.ensures.closed) some (omega arith) }

pub returns-then-closed-n : goal.returns-then-closed-n
returns-then-closed-n g c =
    let all = c.in_ok-passes.ensures.collected in
    let some : 0 < length c.in_ok-passes.field-0.passes.items = omega (arith, c.in_ok-passes.field-0.passes.ok.0, c.in_ok-passes.ensures.count, c.requires.all, c.in_ok-passes.ensures.some) in
    let returned : (i : ℕ) → i < c.close-closed.result.least → (out : _) × g.J.Job.answers c.args.job.now i out = λ i low.
    let pair = Contains-pair _ i (Contains-below_least _ _ _ _ _ _ _ _ all (IsSettled-closed _ _ _ _ _ c.close-closed.ensures.closed) some i low) in
    (pair.0, All-contains (λ p. g.J.Job.answers c.args.job.now p.0 p.1) _ _ all.returned pair.1) in record {
      stopped = c.in_ok-passes.ensures.stopped;
      outcome = record {
        below = omega arith;
        faulted = All-contains (λ p. g.J.Job.faults c.args.job.now p.0 p.1) _ _ all.faulted c.fault_of-fault.ensures.fault;
        returned = returned;
        least = λ i other low h. let a = returned i low in g.met.J.Job.exclusive c.args.job.now i a.0 other a.1 h;
      };
    }

pub in_order-requires : goal.in_order-requires
in_order-requires g c = record {
  all = λ i low.
      let all = c.in_ok-passes.ensures.collected in
      let some : 0 < length c.in_ok-passes.field-0.passes.items = omega (arith, c.in_ok-passes.field-0.passes.ok.0, c.in_ok-passes.ensures.count, c.requires.all, c.in_ok-passes.ensures.some) in
      Contains-below_least _ _ _ _ _ _ _ _ all (IsSettled-closed _ _ _ _ _ c.close-closed.ensures.closed) some i (omega arith);
}

pub returns : goal.returns
returns g c =
    let all = c.in_ok-passes.ensures.collected in
    let outs = c.in_ok-in_order.field-0.items in
    let some : 0 < length c.in_ok-passes.field-0.passes.items = omega (arith, c.in_ok-passes.field-0.passes.ok.0, c.in_ok-passes.ensures.count, c.requires.all, c.in_ok-passes.ensures.some) in
    let drawn = drawn-all _ _ _ _ _ _ _ _ all (IsSettled-closed _ _ _ _ _ c.close-closed.ensures.closed) some in
    let each : (i : ℕ) (d : _) → i < c.args.board.pieces → g.J.Job.answers c.args.job.now i (get_or outs i d) = λ i d low.
    All-contains (λ p. g.J.Job.answers c.args.job.now p.0 p.1) _ _ all.returned (c.in_ok-in_order.ensures.each i d (omega (arith, low, drawn))) in
    let count : length outs ≡ c.args.board.pieces = omega (arith, drawn, c.in_ok-in_order.field-0.ok.0, c.in_ok-in_order.ensures.count) in record {
      stopped = c.in_ok-passes.ensures.stopped;
      outcome = record {
        count = count;
        each = each;
        no_fault = λ i fault low h. let a = answer-at outs (g.J.Job.answers c.args.job.now i) i (omega arith) (λ d. each i d low) in g.met.J.Job.exclusive c.args.job.now i a.0 fault a.1 h;
      };
    }
