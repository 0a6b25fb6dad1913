use Rattle.std.proofs.Common.{◌∙◌}
use Rattle.cluster_parts.proofs.TermSteps.{known_count}
use Rattle.cluster_parts.proofs.counting.count_known.Goals as goal

pub returns : goal.returns
returns c = record { count = λ ls h. c.len.ensures.len ∙ known_count ls c.args.known.now h c.len.ensures.unique }
