use Rattle.std.proofs.Common.{◌≡◌, length, arith}
use Rattle.std.specs.Vec.Iter.{into_iter_items}
use Rattle.dataset_load.proofs.TermSteps.{joined_all, joined_more}
use Rattle.dataset_load.proofs.terms.add_parts.Goals as goal

pub loop-part-preserved : goal.loop-part-preserved
loop-part-preserved c = λ terms end h.
    joined_more terms c.loop-part.dict c.absorb.new.self c.in-Some.part _ _ end (c.loop-part.invariant terms end h) c.in-Some.ensures.steps.0 c.in_ok-absorb.ensures.terms

pub returns : goal.returns
returns c =
    let left = into_iter_items c.loop-part.part-iterator in
    let none : length left ≡ 0 = omega (arith, c.loop-part.part-iterator.rest.ok.0, c.in-None.ensures.steps.0) in
    record { added = λ terms end h. joined_all terms c.loop-part.dict left end (c.loop-part.invariant terms end h) none }
