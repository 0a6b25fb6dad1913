use Rattle.std.proofs.Common.{rules, arith, suc, ◌≡◌}
use Rattle.std.proofs.lemmas.List.Elements.{All-push}
use Rattle.piece_pool.proofs.pool.start.Goals as goal

pub loop-pass-preserved : goal.loop-pass-preserved
loop-pass-preserved g c =
    let steps = c.in-Some.ensures.steps in
    let was = c.loop-pass.invariant in
    let all = rw steps.0 at was.unused in record {
      count = search rules;
      room = search rules;
      unused = λ k d below. all (suc k) d (omega arith);
      promised = rw c.push_reserved.ensures.items (All-push (λ h. (h.promise.job.value ≡ c.args.shared.now.job.now) × (h.promise.board.value ≡ c.args.shared.now.board.now)) _ _ was.promised c.in-Some-start_one.ensures.promised);
    }
