use Rattle.cluster_parts.proofs.filtered.kept_quads.Goals as goal

pub returns-in-Ok-clause-kept : goal.returns-in-Ok-clause-kept
returns-in-Ok-clause-kept c =
    let read = c.in_ok-numbered.ensures.quads in
    (read.0, read.1, read.2, read.3, c.in-Ok.ensures.document read.1 read.4)
