use Rattle.std.proofs.Common.{ap, ◌∙◌}
use Rattle.cluster_parts.specs.Keys.{key_of}
use Rattle.cluster_parts.specs.Output.{keyed_parts}
use Rattle.cluster_parts.proofs.key_splits.split_quads.Goals as goal

pub returns-in-Ok-clause-parts : goal.returns-in-Ok-clause-parts
returns-in-Ok-clause-parts c =
    let read = c.in_ok-numbered.ensures.quads in
    (read.0, read.1, c.in-Ok.ensures.parts read.0 read.2 ∙ ap (λ n. keyed_parts (key_of c.args.key.now) c.args.partitions n read.0) c.in_ok-numbered.ensures.count)
