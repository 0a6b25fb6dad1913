-- Faults of jobs (a choice of this project).
use Rattle.std.specs.Prelude.{⊤}
use Rattle.piece_pool.specs.declared.job.JobFault.{JobFault}
use Rattle.piece_pool.specs.declared.job.JobFault.TheVariants.{Own, Memory}

-- P of the job's own fault, if it is one; nothing is said if an allocation failed
abbrev pub IfOwn : {F : Type 0} → (F → Type 0) → JobFault F → Type 0
IfOwn P (Own f) = P f
IfOwn P Memory = ⊤
