use Rattle.quad_filter.proofs.KeptLaws.{kept_are_listed, wanted_are_kept}
use Rattle.quad_filter.proofs.laws.kept_quads.Goals as goal

pub returns : goal.returns
returns c = record { listed = kept_are_listed; wanted = wanted_are_kept }
