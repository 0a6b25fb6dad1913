use Rattle.cluster_parts.proofs.NumberListSteps.{one_more_in_bytes}
use Rattle.cluster_parts.proofs.number_lists.push_in_bytes.Goals as goal

pub loop-number-preserved : goal.loop-number-preserved
loop-number-preserved c =
    one_more_in_bytes c.args.count c.args.numbers.now c.loop-number.number-index _ _ _ _ c.requires.most c.loop-number-test.true
    c.to_le_bytes.ensures c.loop-number.invariant c.in_ok-extend_from_slice.ensures.items
