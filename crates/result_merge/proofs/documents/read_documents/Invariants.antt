use Rattle.std.proofs.Common.{length}
use Rattle.result_merge.proofs.LoopSteps.{AreTables}
use Rattle.result_merge.proofs.ResultSteps.{AreDocumentsTo}
use Rattle.result_merge.proofs.documents.read_documents.Given as goal

abbrev pub invariant-loop-rest : goal.invariant-loop-rest
invariant-loop-rest l = record {
  read : AreTables l.width l.columns l.head l.read.items l.bytes l.rest;
  there : AreDocumentsTo l.head l.columns l.bytes l.rest;
}

abbrev pub decreases-loop-rest : goal.decreases-loop-rest
decreases-loop-rest l = length l.rest
