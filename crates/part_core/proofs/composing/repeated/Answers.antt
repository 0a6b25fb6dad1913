use Rattle.part_core.specs.declared.command.Command.TheVariants.{Repeated}
use Rattle.part_core.proofs.FaultSteps.{seal_fault}
use Rattle.part_core.proofs.composing.repeated.Goals as goal

pub returns-in-Ok-clause-output : goal.returns-in-Ok-clause-output
returns-in-Ok-clause-output c =
    let found = c.in-Ok.ensures.found in
    record { lists = found.0; fit = found.1; unsealed = found.2; numbers_sealed = found.3 }

pub returns-in-Err-clause-fault : goal.returns-in-Err-clause-fault
returns-in-Err-clause-fault c = rw c.of_seal.ensures.value (seal_fault Repeated c.args.input.now c.in-Err.fault c.in-Err.ensures.fault)
