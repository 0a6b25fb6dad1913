use Rattle.dataset_load.proofs.CountingSteps.{counted_from}
use Rattle.dataset_load.proofs.LimitSteps.{caused}
use Rattle.dataset_load.proofs.StreamingSteps.{load_counts}
use Rattle.dataset_load.proofs.streaming.count_reader.Goals as goal

pub returns-in-Ok-clause-counted : goal.returns-in-Ok-clause-counted
returns-in-Ok-clause-counted g c = counted_from _ _ _ _ c.in_ok-so_far.ensures.filter c.in_ok-so_far.ensures.read c.in-Ok.ensures.counted

pub returns-clause-count : goal.returns-clause-count
returns-clause-count g c = rw c.load_failed.ensures.same (load_counts _ _ c.in-Err.fault c.in_ok-so_far.ensures.count)

pub returns-clause-cause : goal.returns-clause-cause
returns-clause-cause g c = caused g.L.LoadListener.fails (g.S.Source.left c.args.reader.now) c.load_failed.result c.load_failed.ensures.cause
