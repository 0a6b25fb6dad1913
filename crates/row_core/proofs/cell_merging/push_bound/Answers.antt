use Rattle.std.proofs.Common.{rules}
use Rattle.row_core.proofs.MergeSteps.{merged-more}
use Rattle.row_core.proofs.cell_merging.push_bound.Goals as goal

pub loop-i-preserved : goal.loop-i-preserved
loop-i-preserved c = record {
  room = search rules;
  appended = merged-more c.args.a.now c.args.b.now c.loop-i.i c.args.codes.now.items _ _ _ c.loop-i-test.true c.requires.same_width c.loop-i.invariant.appended c.first_bound.ensures.value c.push_reserved.ensures.items;
}
