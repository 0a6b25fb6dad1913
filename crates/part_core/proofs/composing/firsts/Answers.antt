use Rattle.part_core.specs.declared.command.Command.TheVariants.{First}
use Rattle.part_core.proofs.FaultSteps.{seal_fault}
use Rattle.part_core.proofs.composing.firsts.Goals as goal

pub returns-in-Ok-clause-output : goal.returns-in-Ok-clause-output
returns-in-Ok-clause-output c =
    let found = c.in-Ok.ensures.firsts in
    record { texts = found.0; firsts = found.1; unsealed = found.2; new = found.3; sealed_again = found.4 }

pub returns-in-Err-clause-fault : goal.returns-in-Err-clause-fault
returns-in-Err-clause-fault c = rw c.of_seal.ensures.value (seal_fault First c.args.input.now c.in-Err.fault c.in-Err.ensures.fault)
