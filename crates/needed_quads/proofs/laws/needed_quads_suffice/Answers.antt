use Rattle.needed_quads.proofs.NeededLaws.{needed_suffice}
use Rattle.needed_quads.proofs.laws.needed_quads_suffice.Goals as goal

pub returns : goal.returns
returns c = record { law = needed_suffice }
