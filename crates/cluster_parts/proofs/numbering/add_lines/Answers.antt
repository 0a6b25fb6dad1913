use Rattle.std.proofs.Common.{arith}
use Rattle.nquads_core.specs.Lines.{lines}
use Rattle.cluster_parts.proofs.NumberingSteps.{bad_after, bad_inside, few_lines, read_more}
use Rattle.cluster_parts.proofs.numbering.add_lines.Goals as goal

pub fault_after-requires : goal.fault_after-requires
fault_after-requires c = record {
  room = λ k is. let inside = bad_inside c.args.piece.now k (c.in-Err.ensures.bad_line k is) in omega (arith, inside, c.requires.room);
}

pub add_read-requires : goal.add_read-requires
add_read-requires c = record {
  room = let few = few_lines c.args.piece.now in omega (arith, few, c.in-Ok.ensures.read.count, c.requires.room);
}

pub returns-in-Ok-add_read-clause-read : goal.returns-in-Ok-add_read-clause-read
returns-in-Ok-add_read-clause-read c = λ before was.
    read_more c.args.filter.now c.args.so_far.now c.add_read.new.so_far before c.args.piece.now c.in-Ok.read was c.in-Ok.ensures.read c.in-Ok-add_read.ensures.numbered c.in-Ok-add_read.ensures.count

pub returns-in-Err-clause-bad_line : goal.returns-in-Err-clause-bad_line
returns-in-Err-clause-bad_line c = λ k is before was.
    let line = c.fault_after.ensures.line k is in
    bad_after c.args.filter.now c.args.so_far.now before (lines c.args.piece.now) line.0 k was (c.in-Err.ensures.bad_line line.0 line.1) line.2
