use Rattle.std.proofs.Common.{◌++◌, ap, ◌∙◌, codes}
use Rattle.std.specs.Prelude.{decimal}
use Rattle.part_core.specs.declared.command.Command.TheVariants.{Count}
use Rattle.part_core.proofs.FaultSteps.{seal_fault}
use Rattle.part_core.proofs.composing.counted.Goals as goal

pub returns-in-Ok-number_line-clause-output : goal.returns-in-Ok-number_line-clause-output
returns-in-Ok-number_line-clause-output c =
    let found = c.in-Ok.ensures.count in record {
      texts = found.0;
      unsealed = found.1;
      line = c.in-Ok-number_line.ensures.line ∙ ap (λ n. decimal n ++ codes "\n") found.2;
    }

pub returns-in-Err-clause-fault : goal.returns-in-Err-clause-fault
returns-in-Err-clause-fault c = rw c.of_seal.ensures.value (seal_fault Count c.args.input.now c.in-Err.fault c.in-Err.ensures.fault)
