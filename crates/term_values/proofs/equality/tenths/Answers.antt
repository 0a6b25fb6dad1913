use Rattle.std.proofs.Common.{◌∙◌}
use Rattle.term_values.proofs.ResidueLaws.{place_step}
use Rattle.term_values.proofs.equality.tenths.Goals as goal

pub loop-preserved : goal.loop-preserved
loop-preserved c = c.tenth_of-key.ensures.key ∙ place_step c.args.number c.loop.counter c.loop.key c.loop.invariant
