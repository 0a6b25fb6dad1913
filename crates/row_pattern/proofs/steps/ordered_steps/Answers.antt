use Rattle.std.proofs.Common.{◌<◌, ◌∙◌, ap, length, map, IsPermutation, subst, arith, List, ℕ}
use Rattle.std.proofs.lemmas.List.Edits.{length-swap}
use Rattle.std.proofs.lemmas.List.Sorted.{IsPermutation-swap, IsPermutation-trans, IsPermutation-map}
use Rattle.algebra_model.specs.Bgp.{TriplePattern}
use Rattle.row_pattern.specs.Steps.{step_pattern}
use Rattle.row_pattern.proofs.steps.ordered_steps.Goals as goal

pub loop-i-preserved : goal.loop-i-preserved
loop-i-preserved c =
    let steps = c.loop-i.steps.items in
    let next = c.least-next.result in
    let low : c.loop-i.i < length steps = omega (arith, c.loop-i-test.true, c.len-i-end.ensures, c.as_slice.ensures.len, ap length c.as_slice.ensures.value, c.loop-i.invariant.long) in
    let inside : next < length steps = omega (arith, c.least-next.ensures.inside, ap length c.as_slice-in-loop-i.ensures.value) in
    record {
      long = ap length c.swap.ensures.items ∙ length-swap steps c.loop-i.i next ∙ c.loop-i.invariant.long;
      same = IsPermutation-trans c.in_ok-steps.steps.items steps c.swap.new.self.items c.loop-i.invariant.same (IsPermutation-swap steps c.swap.new.self.items c.loop-i.i next low inside c.swap.ensures.items);
    }

pub returns : goal.returns
returns c = record {
  same = subst (λ (l : List (TriplePattern ℕ)). IsPermutation l (map step_pattern c.loop-i.steps.items)) c.in_ok-steps.ensures.steps
      (IsPermutation-map step_pattern c.in_ok-steps.steps.items c.loop-i.steps.items c.loop-i.invariant.same);
}
