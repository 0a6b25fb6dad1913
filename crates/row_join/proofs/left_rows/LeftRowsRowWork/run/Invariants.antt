use Rattle.std.proofs.Common.{◌≡◌, ◌-◌, take, drop, flat_map}
use Rattle.algebra_model.specs.Bag.{IsSameBag}
use Rattle.row_join.proofs.left_rows.LeftRowsRowWork.run.Given as goal

abbrev pub invariant-loop-i : goal.invariant-loop-i
invariant-loop-i g l = record {
  width : l.made.width ≡ l.self.left.now.width;
  rows : IsSameBag l.made.rows (flat_map (g.P.Pairing.gives l.self.pairing.now l.self.right.now.rows.now.rows) (take (l.i - l.from) (drop l.from l.self.left.now.rows)));
}
