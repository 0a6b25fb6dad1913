use Rattle.std.proofs.Common.{◌∙◌}
use Rattle.quad_filter.proofs.WantedLaws.{wants_keeps}
use Rattle.quad_filter.proofs.filter.QuadFilter.wants.Goals as goal

pub returns : goal.returns
returns c = record { value = λ q h. c.is_wanted_by.ensures.value ∙ wants_keeps c.args.raw.now q h c.args.self.now }
