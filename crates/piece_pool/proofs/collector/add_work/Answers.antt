use Rattle.piece_pool.proofs.CollectorSteps.{IsCollected-more}
use Rattle.piece_pool.proofs.collector.add_work.Goals as goal

pub returns-clause-collected : goal.returns-clause-collected
returns-clause-collected g c =
    rw (c.in_ok-push.ensures.items, c.in_ok-append.ensures.items, c.in_ok-append-2.ensures.items) (IsCollected-more _ _ _ _ _ _ _ c.requires.collected c.requires.work c.if-stopped.false)
