use Rattle.part_core.specs.declared.command.Command.TheVariants.{Merge}
use Rattle.part_core.proofs.FaultSteps.{merge_fault}
use Rattle.part_core.proofs.composing.merged.Goals as goal

pub returns-in-Err-clause-fault : goal.returns-in-Err-clause-fault
returns-in-Err-clause-fault c = rw c.of_merge.ensures.value (merge_fault (Merge c.args.merging.now) c.args.input.now c.in-Err.fault c.in-Err.ensures.damaged)
