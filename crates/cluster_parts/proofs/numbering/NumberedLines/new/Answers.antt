use Rattle.std.proofs.Common.{refl}
use Rattle.cluster_parts.proofs.NumberingSteps.{nothing_is_read}
use Rattle.cluster_parts.proofs.numbering.NumberedLines.new.Goals as goal

pub returns : goal.returns
returns c = record { none = λ filter. nothing_is_read filter _ c.new.ensures.empty c.new-2.ensures.items refl }
