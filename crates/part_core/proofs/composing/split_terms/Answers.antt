use Rattle.part_core.proofs.composing.split_terms.Goals as goal

pub returns-in-Ok-clause-output : goal.returns-in-Ok-clause-output
returns-in-Ok-clause-output c =
    let found = c.in-Ok.ensures.parts in record { quads = found.0; statements = found.1; parts = found.2 }
