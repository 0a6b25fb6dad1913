use Rattle.dataset_load.proofs.LimitSteps.{caused}
use Rattle.dataset_load.proofs.StreamingSteps.{load_counts, loaded_from}
use Rattle.dataset_load.proofs.streaming.load_reader.Goals as goal

pub store_of-requires-clause-read : goal.store_of-requires-clause-read
store_of-requires-clause-read g c = (_, c.in_ok-so_far.ensures.read.read)

pub returns-in-Ok-clause-loaded : goal.returns-in-Ok-clause-loaded
returns-in-Ok-clause-loaded g c = loaded_from c.args.filter.now _ _ _ _ c.in_ok-so_far.ensures.filter c.in_ok-so_far.ensures.read c.in-Ok.ensures.loaded

pub returns-in-Err-clause-count : goal.returns-in-Err-clause-count
returns-in-Err-clause-count g c = rw c.load_failed.ensures.same (load_counts _ _ c.in-Err.fault c.in_ok-so_far.ensures.count)

pub returns-in-Err-clause-cause : goal.returns-in-Err-clause-cause
returns-in-Err-clause-cause g c = caused g.L.LoadListener.fails (g.S.Source.left c.args.reader.now) c.load_failed.result c.load_failed.ensures.cause
