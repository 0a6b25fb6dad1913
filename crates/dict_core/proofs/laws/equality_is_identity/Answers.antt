use Rattle.dict_core.proofs.NumQuadLaws.{quad_decides}
use Rattle.dict_core.proofs.laws.equality_is_identity.Goals as goal

pub returns : goal.returns
returns c = record { law = λ a b. quad_decides a b }
