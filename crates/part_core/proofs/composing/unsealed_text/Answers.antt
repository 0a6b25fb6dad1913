use Rattle.part_core.specs.declared.command.Command.TheVariants.{Unseal}
use Rattle.part_core.proofs.FaultSteps.{seal_fault}
use Rattle.part_core.proofs.composing.unsealed_text.Goals as goal

pub returns-in-Ok-clause-output : goal.returns-in-Ok-clause-output
returns-in-Ok-clause-output c =
    let texts = c.in-Ok.ensures.texts in record { texts = texts.0; unsealed = texts.1; joined = texts.2 }

pub returns-in-Err-clause-fault : goal.returns-in-Err-clause-fault
returns-in-Err-clause-fault c = rw c.of_seal.ensures.value (seal_fault Unseal c.args.input.now c.in-Err.fault c.in-Err.ensures.fault)
