use Rattle.std.proofs.Common.{ℕ, List, ◌∙◌, subst, arith}
use Rattle.dataset_load.specs.Rounds.{HasRead}
use Rattle.std.proofs.lemmas.Result.{err_from_is_err_and}
use Rattle.dataset_load.proofs.ReadingSteps.{bad_fault, lines_to, lines_up_to_end}
use Rattle.dataset_load.proofs.rounds.number_pieces.Goals as goal

pub loop-from-preserved : goal.loop-from-preserved
loop-from-preserved g c =
    let was = c.loop-from.invariant in
    let to = lines_to c.args.pieces.now c.loop-from.from c.round_end-to.result (omega arith) in
    let numbered = rw c.in_ok-added.was at c.add_round-added.ensures.numbered in
    let counted = rw c.in_ok-added.was at c.add_round-added.ensures.counted in
    let done = rw c.part-round.ensures.value at (numbered _ was.read) in
    record {
      inside = c.round_end-to.ensures.within;
      countable = omega (arith, was.countable, counted, c.part-round.ensures.len);
      read = subst (λ (ls : List (List ℕ)). HasRead c.add_round-added.new.so_far ls) to done;
      filter = c.add_round-added.ensures.filter ∙ was.filter;
    }

pub returns-clause-numbered : goal.returns-clause-numbered
returns-clause-numbered g c =
    subst (λ (ls : List (List ℕ)). HasRead c.loop-from.so_far ls) (lines_up_to_end c.args.pieces.now c.loop-from.from (omega arith)) c.loop-from.invariant.read

pub returns-in_err-added-clause-bad_line : goal.returns-in_err-added-clause-bad_line
returns-in_err-added-clause-bad_line g c =
    let p = err_from_is_err_and c.from_residual.result c.from_residual.ensures.1 in
    rw (p.1, p.2) (bad_fault c.args.pieces.now c.part-round.result.now c.loop-from.from c.round_end-to.result c.loop-from.so_far _ (omega arith) c.part-round.ensures.value
    c.loop-from.invariant.read (rw c.in_err-added.was at c.add_round-added.ensures.bad_line))
