use Rattle.part_core.proofs.composing.split.Goals as goal

pub returns-in-Ok-clause-output : goal.returns-in-Ok-clause-output
returns-in-Ok-clause-output c =
    let found = c.in-Ok.ensures.parts in record {
      quads = found.0;
      hashes = found.1;
      statements = found.2;
      hashed = found.3;
      ascending = found.4;
      fit = found.5;
      parts = found.6;
    }
