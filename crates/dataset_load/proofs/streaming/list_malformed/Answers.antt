use Rattle.dataset_load.proofs.LimitSteps.{limit_caused}
use Rattle.dataset_load.proofs.RestSteps.{part_of_line, rest_failed}
use Rattle.dataset_load.proofs.StreamingSteps.{read_counts}
use Rattle.dataset_load.proofs.streaming.list_malformed.Goals as goal

pub returns-in-Ok-clause-outcome : goal.returns-in-Ok-clause-outcome
returns-in-Ok-clause-outcome g c = λ start was.
    let bad_line = c.in-Ok.ensures.bad_line start c.args.line was in record {
      bad_line = bad_line;
      listed = c.in-Ok.ensures.listed start c.args.line was;
      stopped = c.in-Ok.ensures.stopped start c.args.line was;
      taken = part_of_line _ _ _ bad_line;
      cause = tt;
    }

pub returns-in-Err-clause-outcome : goal.returns-in-Err-clause-outcome
returns-in-Err-clause-outcome g c = λ start was.
    rw c.from.ensures (rest_failed g.L.LoadListener.fails start _ _ c.in-Err.fault (c.in-Err.ensures.taken start c.args.line was)
    (limit_caused g.L.LoadListener.fails start c.in-Err.fault (λ is. c.in-Err.ensures.limit is start c.args.line was)))

pub returns-in-Err-clause-count : goal.returns-in-Err-clause-count
returns-in-Err-clause-count g c = rw c.from.ensures (read_counts _ _ c.in-Err.fault c.in-Err.ensures.count)
