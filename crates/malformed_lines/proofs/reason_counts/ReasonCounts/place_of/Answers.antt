use Rattle.std.proofs.Common.{arith}
use Rattle.malformed_lines.proofs.TallyLaws.{none_at}
use Rattle.malformed_lines.proofs.reason_counts.ReasonCounts.place_of.Goals as goal

pub loop-i-preserved : goal.loop-i-preserved
loop-i-preserved c = λ k d l. none_at c.args.self.now.counts.items c.loop-i.i k c.index.result.now d c.args.reason (omega arith) l c.index.ensures c.if-is_same.ensures.value c.loop-i.invariant
