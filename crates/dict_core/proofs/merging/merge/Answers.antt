use Rattle.std.proofs.Common.{◌≡◌, ◌++◌, length, subst, arith}
use Rattle.std.specs.Vec.Iter.{into_iter_items}
use Rattle.dict_core.specs.Numbered.{IsNumbered}
use Rattle.dict_core.proofs.MergingSteps.{joined_all, joined_more}
use Rattle.dict_core.proofs.merging.merge.Goals as goal

pub loop-piece-preserved : goal.loop-piece-preserved
loop-piece-preserved c =
    let was = c.loop-piece.invariant in
    (was.0 ++ c.in-Some.piece, c.in_ok-merge_piece.ensures.numbered was.0 was.1, joined_more was.0 c.in-Some.piece _ _ _ c.in-Some.ensures.steps.0 was.2)

pub returns : goal.returns
returns c =
    let was = c.loop-piece.invariant in
    let left = into_iter_items c.loop-piece.piece-iterator in
    let none : length left ≡ 0 = omega (arith, c.loop-piece.piece-iterator.rest.ok.0, c.in-None.ensures.steps.0) in
    record { numbered = subst (λ quads. IsNumbered quads c.loop-piece.dict c.loop-piece.all.items) (joined_all was.0 left _ none was.2) was.1 }
