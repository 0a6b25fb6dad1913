use Rattle.std.proofs.Common.{refl}
use Rattle.dataset_load.proofs.CountingSteps.{counted_lines}
use Rattle.dataset_load.proofs.counted.counted_of.Goals as goal

pub returns-clause-counted : goal.returns-clause-counted
returns-clause-counted g c = λ is lines read. counted_lines lines c.args.so_far c.args.so_far.quads _ _ is read refl c.in_ok-counts.ensures.counts refl refl refl
