use Rattle.std.proofs.Common.{◌++◌, arith, refl}
use Rattle.std.proofs.lemmas.Grind.{common_steps}
use Rattle.malformed_lines.proofs.CountLaws.{named_moved, named_within}
use Rattle.malformed_lines.proofs.TallyLaws.{first_again, none_more, sum_more}
use Rattle.malformed_lines.proofs.reason_counts.ReasonCounts.add_all.Goals as goal

pub loop-count-preserved : goal.loop-count-preserved
loop-count-preserved c = record {
  named = λ front back e small h m.
      let one = m c.loop-count.count-index _ (omega (arith, c.loop-count-test.true)) in
      c.add_reserved.ensures.named 1 (front ++ back) (c.loop-count.invariant.named front back e small h m)
      (named_moved front back c.args.before _ _ e one (omega (arith, named_within back _ one, c.saturating_add.ensures, c.saturating_add-in-loop-count.ensures, small, e)) refl refl refl);
  sums = λ test. sum_more test c.args.more.now c.loop-count.count-index _ _ _ _ (omega arith) (c.add_reserved.ensures.sums test) (c.loop-count.invariant.sums test);
  firsts = λ singles small h m.
      c.add_reserved.ensures.firsts singles (c.loop-count.invariant.firsts singles small h m)
      (λ none. first_again singles c.args.more.now c.args.before c.loop-count.count-index _ _ refl refl refl (small c.loop-count.count-index _ (omega arith))
      (λ fits. omega (arith, c.saturating_add.ensures, c.saturating_add-in-loop-count.ensures, fits))
      (m c.loop-count.count-index _ (omega arith) (c.loop-count.invariant.complete _ none).0));
  complete = λ q none.
      let w = c.add_reserved.ensures.complete q none in
      let v = c.loop-count.invariant.complete q w.0 in
      (v.0, none_more c.args.more.now c.loop-count.count-index _ q (omega arith) v.1 w.1);
  total = grind (arith, common_steps);
  room = grind (arith, common_steps);
}
