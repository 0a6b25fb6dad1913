use Rattle.std.proofs.Common.{subst, sym}
use Rattle.nquads_core.specs.Lines.{lines}
use Rattle.nquads_core.specs.Pieces.{HaveStatements}
use Rattle.quad_filter.proofs.KeptLaws.{all_is_kept}
use Rattle.cluster_parts.proofs.numbering.number_lines.Goals as goal

pub returns-in-Ok-clause-quads : goal.returns-in-Ok-clause-quads
returns-in-Ok-clause-quads c =
    let read = c.in-Ok.ensures.quads in
    (read.1, subst (HaveStatements (lines c.args.bytes.now)) (sym (all_is_kept read.0 read.1 read.3)) read.2, read.4)
