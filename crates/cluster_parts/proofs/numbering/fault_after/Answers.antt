use Rattle.std.proofs.Common.{◌≡◌, ◌+◌, sym, arith}
use Rattle.cluster_parts.proofs.numbering.fault_after.Goals as goal

pub overflow_add-result : goal.overflow_add-result
overflow_add-result c = let room = c.requires.room c.in-BadLine.line c.in-BadLine.is in omega (arith, room)

pub returns-in-BadLine : goal.returns-in-BadLine
returns-in-BadLine c = record {
  line = λ k is. let e : c.args.lines + c.in-BadLine.line ≡ k = cc in (c.in-BadLine.line, c.in-BadLine.is, sym e);
}
