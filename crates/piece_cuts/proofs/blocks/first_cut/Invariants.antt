use Rattle.std.proofs.Common.{◌-◌, ◌^◌, ◌≤◌, vec_len}
use Rattle.nquads_core.specs.Device.{Stays}
use Rattle.piece_cuts.specs.Blocks.{Grows, HasNoCutUpTo}
use Rattle.piece_cuts.proofs.blocks.first_cut.Given as goal

abbrev pub invariant-loop-place : goal.invariant-loop-place
invariant-loop-place g l = record {
  grows : Grows (g.S.Source.left l.initial.reader) (g.S.Source.left l.reader) l.initial.kept.items l.kept.items;
  count : Stays (g.S.Source.failures l.initial.reader) (g.S.Source.failures l.reader);
  from : l.size ≤ l.searched;
  clear : HasNoCutUpTo l.kept.items l.size l.searched;
}

abbrev pub decreases-loop-place : goal.decreases-loop-place
decreases-loop-place g l = 2 ^ 63 - vec_len l.kept
