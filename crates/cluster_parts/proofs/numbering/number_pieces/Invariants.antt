use Rattle.std.proofs.Common.{take}
use Rattle.piece_cuts.specs.Laws.{pieces_of}
use Rattle.cluster_parts.specs.Numbered.{AreRead}
use Rattle.cluster_parts.proofs.NumberingSteps.{all_lines}
use Rattle.cluster_parts.proofs.numbering.number_pieces.Given as goal

abbrev pub invariant-loop-i : goal.invariant-loop-i
invariant-loop-i l = AreRead l.filter l.so_far (all_lines (take l.i (pieces_of l.bytes l.cuts)))
