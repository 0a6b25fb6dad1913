-- How an evaluation is run (a choice of this project).
use Rattle.std.specs.Prelude.{◌≡◌, ◌≤◌}
use Rattle.piece_pool.specs.Limits.{most_workers}
use Rattle.row_pieces.specs.declared.how.How.{How}

-- 1 to 64 workers, and at least one row in a piece
abbrev pub IsRunnable : How → Type 0
IsRunnable how = (1 ≤ how.workers) × (how.workers ≤ most_workers) × (1 ≤ how.rows)

-- one worker, which is the caller itself
abbrev pub HasOneWorker : How → Type 0
HasOneWorker how = how.workers ≡ 1
