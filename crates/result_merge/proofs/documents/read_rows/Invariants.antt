use Rattle.std.proofs.Common.{length}
use Rattle.result_merge.proofs.ListSteps.{AreRowsTo}
use Rattle.result_merge.proofs.LoopSteps.{IsTable}
use Rattle.result_merge.proofs.documents.read_rows.Given as goal

abbrev pub invariant-reading : goal.invariant-reading
invariant-reading l = record {
  read : IsTable l.width l.columns l.initial.read.items l.read.items l.bytes l.rest l.later;
  there : AreRowsTo l.columns l.bytes l.rest l.later;
}

abbrev pub decreases-reading : goal.decreases-reading
decreases-reading l = length l.rest
