use Rattle.std.proofs.Common.{length}
use Rattle.nquads_core.specs.LineCuts.{HasNoCr}
use Rattle.nquads_core.proofs.PieceLaws.{CountedLines}
use Rattle.nquads_core.proofs.piece.count_plain_lines.Given as goal

abbrev pub invariant-loop-rest : goal.invariant-loop-rest
invariant-loop-rest l = record {
  counted : CountedLines l.count l.rest l.text;
  no_cr : HasNoCr l.rest;
}

abbrev pub decreases-loop-rest : goal.decreases-loop-rest
decreases-loop-rest l = length l.rest
