use Rattle.std.proofs.Common.{◌∙◌}
use Rattle.quad_index.proofs.PartSteps.{all_keys, key_added, key_left}
use Rattle.quad_index.proofs.parts.keys_in_part.Goals as goal
use Rattle.quad_index.proofs.parts.keys_in_part.Goals.{then-part_of-part+in_ok-push, else-part_of-part}

pub loop-key-preserved : goal.loop-key-preserved
loop-key-preserved c =
    let was = c.loop-key.invariant in
    elim c.if-part_of-part.branch [
      | then-part_of-part+in_ok-push w ↦
          rw w.found-is (key_added c.args.order c.args.part c.args.keys.now c.loop-key.key-index c.quad_of.result _ c.loop-key-test.true c.quad_of.ensures.quad c.part_of.ensures.part
          _ _ was w.in_ok-push.ensures.items w.if-part_of-part.true)
      | else-part_of-part w ↦
          let same = key_left c.args.order c.args.part c.args.keys.now c.loop-key.key-index c.quad_of.result _ c.loop-key-test.true c.quad_of.ensures.quad c.part_of.ensures.part w.if-part_of-part.false in
          rw (w.found-is, same) was
    ]

pub returns : goal.returns
returns c = record { keys = c.loop-key.invariant ∙ all_keys c.args.order c.args.part c.args.keys.now c.loop-key.key-index c.loop-key-test.false }
