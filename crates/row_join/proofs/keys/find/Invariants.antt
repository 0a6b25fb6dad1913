use Rattle.std.proofs.Common.{length}
use Rattle.row_core.specs.RowList.{rows_in}
use Rattle.row_join.specs.KeyTable.{bucket_of}
use Rattle.row_join.proofs.KeyTableLaws.{IsSearched}
use Rattle.row_join.proofs.keys.find.Given as goal

abbrev pub invariant-loop-at : goal.invariant-loop-at
invariant-loop-at l = IsSearched (bucket_of l.fn.state (length l.buckets)) (rows_in l.width l.width (length l.earlier) l.numbers) (length l.earlier) l.key l.at

abbrev pub decreases-loop-at : goal.decreases-loop-at
decreases-loop-at l = l.at
