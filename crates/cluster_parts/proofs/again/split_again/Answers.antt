use Rattle.cluster_parts.proofs.again.split_again.Goals as goal

pub returns-in-Ok-clause-parts : goal.returns-in-Ok-clause-parts
returns-in-Ok-clause-parts c =
    let read = c.in_ok-numbered.ensures.quads in
    (read.0, read.1, c.in-Ok.ensures.parts read.0 read.2)
