use Rattle.std.proofs.Common.{ap, inl}
use Rattle.piece_cuts.proofs.BlockSteps.{BothKnown-cut, BothKnown-block, ends_whole}
use Rattle.piece_cuts.proofs.blocks.Blocks.next.Goals as goal

pub returns-in-Ok-clause-block : goal.returns-in-Ok-clause-block
returns-in-Ok-clause-block g c e =
    let kept = ap (λ v. v.kept) c.self.view_is in
    let size = ap (λ v. v.size) c.self.view_is in
    let grows = c.in-Ok-Some.ensures.grows in
    let cut = rw c.in-Ok-Some.field-0-is at c.in-Ok-Some.ensures.cut in
    let all = BothKnown-cut _ _ _ _ _ _ c.self.invariant grows cut in
    BothKnown-block _ _ _ _ _ _ _ _ _ c.in-Ok.block size kept c.in-Ok.ensures.front c.in-Ok.ensures.rest all

pub returns-in-Ok-clause-last : goal.returns-in-Ok-clause-last
returns-in-Ok-clause-last g c e =
    let cut = rw c.in-Ok-Some.field-0-is at c.in-Ok-Some.ensures.cut in
    inl (ends_whole _ c.in-Ok.block.items _ _ cut c.in-Ok.ensures.front)
