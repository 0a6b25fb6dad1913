-- The fault of an evaluation (a choice of this project).
use Rattle.std.specs.Prelude.{◌≡◌}
use Rattle.piece_pool.specs.declared.pool.PoolFault.{PoolFault}
use Rattle.piece_pool.specs.declared.pool.PoolFault.TheVariants as pool
use Rattle.row_pieces.specs.declared.fault.EvalFault.{EvalFault}
use Rattle.row_pieces.specs.declared.fault.EvalFault.TheVariants.{WorkerRefused, Memory}

-- a fault of the pool has the same name
abbrev pub IsEvalFaultOf : PoolFault → EvalFault → Type 0
IsEvalFaultOf pool.WorkerRefused fault = fault ≡ WorkerRefused
IsEvalFaultOf pool.Memory fault = fault ≡ Memory
