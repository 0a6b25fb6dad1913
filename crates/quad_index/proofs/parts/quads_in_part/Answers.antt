use Rattle.quad_index.proofs.PartSteps.{list_added, quad_added, quad_left}
use Rattle.quad_index.proofs.parts.quads_in_part.Goals as goal
use Rattle.quad_index.proofs.parts.quads_in_part.Goals.{then-part_of-part+in_ok-push, else-part_of-part}

pub loop-quad-preserved : goal.loop-quad-preserved
loop-quad-preserved c =
    let was = c.loop-quad.invariant in
    let qs = c.args.quads.now in
    elim c.if-part_of-part.branch [
      | then-part_of-part+in_ok-push w ↦
          let more = quad_added c.args.part qs c.loop-quad.quad-index _ _ c.loop-quad-test.true c.part_of.ensures.part w.if-part_of-part.true in
          rw w.list-is (list_added _ _ _ _ _ more was w.in_ok-push.ensures.items)
      | else-part_of-part w ↦
          let same = quad_left c.args.part qs c.loop-quad.quad-index _ _ c.loop-quad-test.true c.part_of.ensures.part w.if-part_of-part.false in
          rw (w.list-is, same) was
    ]
