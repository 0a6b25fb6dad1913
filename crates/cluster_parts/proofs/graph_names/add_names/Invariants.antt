use Rattle.std.proofs.Common.{take}
use Rattle.cluster_parts.proofs.PartSteps.{FirstNames}
use Rattle.cluster_parts.proofs.graph_names.add_names.Given as goal

abbrev pub invariant-loop-quad : goal.invariant-loop-quad
invariant-loop-quad l = FirstNames l.texts.texts (take l.quad-index l.quads) l.known.texts
