use Rattle.std.proofs.Common.{ℕ, Global, Vec, refl}
use Rattle.part_core.proofs.FaultSteps.{read_fault, read_no_write, read_rises, read_stays}
use Rattle.part_core.proofs.program.run.Goals as goal

pub returns-in-Err-clause-read : goal.returns-in-Err-clause-read
returns-in-Err-clause-read g c = read_rises (Vec ℕ Global) _ _ c.of_read.result _ refl c.in-Err.fault c.in-Err.ensures.count c.of_read.ensures.value

pub returns-in-Err-clause-fault : goal.returns-in-Err-clause-fault
returns-in-Err-clause-fault g c = rw c.of_read.ensures.value (read_fault c.args.command.now _ _ c.in-Err.fault)

pub returns-in-Err-clause-taken : goal.returns-in-Err-clause-taken
returns-in-Err-clause-taken g c = c.in-Err.ensures.taken

pub returns-in-Err-clause-write : goal.returns-in-Err-clause-write
returns-in-Err-clause-write g c = λ e. absurd (read_no_write c.of_read.result _ refl c.in-Err.fault c.of_read.ensures.value e)

pub returns-in-Err-clause-unfailed : goal.returns-in-Err-clause-unfailed
returns-in-Err-clause-unfailed g c = read_stays (Vec ℕ Global) _ _ c.of_read.result _ refl c.in-Err.fault c.in-Err.ensures.count c.of_read.ensures.value
