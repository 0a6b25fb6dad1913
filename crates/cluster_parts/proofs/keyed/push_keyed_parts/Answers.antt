use Rattle.std.proofs.Common.{ap, ◌∙◌}
use Rattle.cluster_parts.specs.Output.{quads_part}
use Rattle.cluster_parts.specs.Seal.{sealed}
use Rattle.cluster_parts.proofs.PartSteps.{one_more_part}
use Rattle.cluster_parts.proofs.keyed.push_keyed_parts.Goals as goal

pub loop-number-preserved : goal.loop-number-preserved
loop-number-preserved c = λ quads key h are.
    one_more_part (quads_part key c.args.partitions quads) c.loop-number.number _ _ _ _ (c.loop-number.invariant quads key h are) c.in_ok-push_sealed.ensures.appended
    (ap (λ t. sealed t) (c.as_slice.ensures.value ∙ c.in_ok-part.ensures.part quads key h are))
