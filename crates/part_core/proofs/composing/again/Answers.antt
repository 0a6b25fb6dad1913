use Rattle.std.proofs.Common.{ap, subst, ◌∙◌}
use Rattle.cluster_parts.specs.NumberList.{FitInEightBytes}
use Rattle.cluster_parts.specs.Output.{again_parts}
use Rattle.part_core.specs.declared.command.Command.TheVariants.{Again}
use Rattle.part_core.proofs.FaultSteps.{block_fault, seal_fault}
use Rattle.part_core.proofs.composing.again.Goals as goal

pub returns-in-Ok-split_again-clause-output : goal.returns-in-Ok-split_again-clause-output
returns-in-Ok-split_again-clause-output c =
    let found = c.in-Ok-split_again.ensures.parts in
    let read = c.in-Ok.ensures.lists in record {
      lists = read.0;
      block = c.in-Ok.parts.1.now;
      quads = found.0;
      one_each = read.1;
      fit = subst FitInEightBytes read.2 c.in-Ok.ensures.fit;
      unsealed = read.3;
      statements = found.1;
      parts = found.2 ∙ ap (λ hs. again_parts hs c.args.partitions found.0) (c.deref.ensures.value ∙ read.2);
    }

pub returns-clause-fault : goal.returns-clause-fault
returns-clause-fault c =
    let read = c.in-Ok.ensures.lists in
    rw c.of_piece.ensures.value (block_fault (Again c.args.partitions) c.args.input.now c.in-Err-split_again.fault (λ k e. record {
      lists = read.0;
      block = c.in-Ok.parts.1.now;
      one_each = read.1;
      fit = subst FitInEightBytes read.2 c.in-Ok.ensures.fit;
      unsealed = read.3;
      malformed = c.in-Err-split_again.ensures.bad_line k e;
    }))

pub returns-in-Err-clause-fault : goal.returns-in-Err-clause-fault
returns-in-Err-clause-fault c = rw c.of_seal.ensures.value (seal_fault (Again c.args.partitions) c.args.input.now c.in-Err.fault c.in-Err.ensures.fault)
