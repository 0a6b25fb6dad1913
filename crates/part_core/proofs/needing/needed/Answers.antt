use Rattle.quad_filter.specs.Filter.{keeps}
use Rattle.part_core.specs.Needed.{needs}
use Rattle.part_core.proofs.NeededLaws.{kept_weaker}
use Rattle.part_core.proofs.needing.needed.Goals as goal

pub returns-in-Ok-kept_quads-clause-output : goal.returns-in-Ok-kept_quads-clause-output
returns-in-Ok-kept_quads-clause-output c =
    let read = c.in-Ok.ensures.needed in
    let found = c.in-Ok-kept_quads.ensures.kept in record {
      text = c.split_at.result.0.now;
      block = c.split_at.result.1.now;
      query = read.0;
      quads = found.0;
      kept = found.1;
      first = c.split_at.ensures.front_len;
      read = c.split_at.ensures.by_index.0;
      valid = read.1;
      statements = found.2;
      needed = kept_weaker (needs read.0) (keeps c.in-Ok.filter) read.2 found.0 found.1 found.3;
      written = found.4;
    }
