use Rattle.std.proofs.Common.{All, Contains}
use Rattle.std.specs.Vec.Iter.{into_iter_items}
use Rattle.piece_pool.specs.Worked.{numbers_of}
use Rattle.piece_pool.proofs.collector.fault_of.Given as goal

abbrev pub invariant-loop-i : goal.invariant-loop-i
invariant-loop-i g l = record {
  rest : All (Contains l.fn.faults.items) (into_iter_items l.i-iterator);
  left : Contains (numbers_of (into_iter_items l.i-iterator)) l.piece;
}
