use Rattle.std.proofs.Common.{ap, ◌∙◌}
use Rattle.cluster_parts.specs.Output.{check_parts}
use Rattle.cluster_parts.proofs.splitting.split_for_check.Goals as goal

pub returns-in-Ok-clause-parts : goal.returns-in-Ok-clause-parts
returns-in-Ok-clause-parts c =
    let read = c.in_ok-numbered.ensures.quads in
    let made = c.in-Ok.ensures.parts read.0 read.2 in
    (read.0, made.0, read.1, made.1, made.2, made.3, made.4 ∙ ap (λ n. check_parts c.args.partitions n read.0 made.0) c.in_ok-numbered.ensures.count)
