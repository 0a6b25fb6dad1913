use Rattle.std.proofs.Common.{arith}
use Rattle.nquads_scan.proofs.NoEnds.{kept_passed, passed_join}
use Rattle.nquads_scan.proofs.SearchLaws.{passed_over, stopped_at}
use Rattle.nquads_scan.proofs.search.search.Goals as goal

pub returns-then-found-ne0-clause-passed : goal.returns-then-found-ne0-clause-passed
returns-then-found-ne0-clause-passed c =
    stopped_at c.args.a c.args.b c.args.bytes.now c.args.from c.loop-at.at c.marks-found.result c.loop-at.invariant.passed (omega arith) c.marks-found.ensures (omega arith)

pub returns-then-found-ne0-clause-kept : goal.returns-then-found-ne0-clause-kept
returns-then-found-ne0-clause-kept c =
    kept_passed c.args.a c.args.b c.args.bytes.now c.args.from _
    (stopped_at c.args.a c.args.b c.args.bytes.now c.args.from c.loop-at.at c.marks-found.result c.loop-at.invariant.passed (omega arith) c.marks-found.ensures (omega arith))

pub loop-at-preserved : goal.loop-at-preserved
loop-at-preserved c = record {
  place = (omega (arith, c.loop-at.invariant.place.0), omega arith);
  passed = passed_over c.args.a c.args.b c.args.bytes.now c.args.from c.loop-at.at c.marks-found.result c.loop-at.invariant.passed (omega arith) c.marks-found.ensures (omega arith);
}

pub returns-clause-passed : goal.returns-clause-passed
returns-clause-passed c =
    passed_join c.args.a c.args.b c.args.bytes.now c.args.from c.loop-at.at _ c.loop-at.invariant.passed c.search_singly.ensures.passed

pub returns-clause-kept : goal.returns-clause-kept
returns-clause-kept c =
    kept_passed c.args.a c.args.b c.args.bytes.now c.args.from _
    (passed_join c.args.a c.args.b c.args.bytes.now c.args.from c.loop-at.at _ c.loop-at.invariant.passed c.search_singly.ensures.passed)
