use Rattle.std.proofs.Common.{not, ap, ◌∙◌}
use Rattle.cluster_parts.specs.Terms.{has_line}
use Rattle.cluster_parts.specs.Known.{texts_of}
use Rattle.cluster_parts.proofs.TermSteps.{is_known, line_added}
use Rattle.cluster_parts.proofs.known_lines.add_line.Goals as goal

pub returns-in-Ok-clause-new : goal.returns-in-Ok-clause-new
returns-in-Ok-clause-new c = c.in-Ok.ensures.added ∙ ap not (is_known c.args.known.now.keys c.args.line)

pub returns-in-Ok-clause-known : goal.returns-in-Ok-clause-known
returns-in-Ok-clause-known c = λ l. ap (λ ks. has_line (texts_of ks) l) c.in-Ok.ensures.keys ∙ line_added c.args.known.now.keys c.args.line l
