use Rattle.quad_filter.proofs.KeptLaws.{all_is_kept, list_is_kept}
use Rattle.quad_filter.proofs.laws.all_is_kept.Goals as goal

pub returns : goal.returns
returns c = record { all = all_is_kept; list = list_is_kept }
