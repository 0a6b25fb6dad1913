use Rattle.part_core.specs.declared.command.Command.TheVariants.{Keep}
use Rattle.part_core.proofs.FaultSteps.{seal_fault}
use Rattle.part_core.proofs.composing.kept.Goals as goal

pub returns-in-Ok-clause-output : goal.returns-in-Ok-clause-output
returns-in-Ok-clause-output c =
    let found = c.in-Ok.ensures.kept in
    record { list = found.0; marks = found.1; unsealed = found.2; listed = found.3 }

pub returns-in-Err-clause-fault : goal.returns-in-Err-clause-fault
returns-in-Err-clause-fault c = rw c.of_seal.ensures.value (seal_fault Keep c.args.input.now c.in-Err.fault c.in-Err.ensures.fault)
