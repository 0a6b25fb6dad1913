use Rattle.rdf_core.proofs.TermLaws.{term_decides}
use Rattle.rdf_core.proofs.laws.equality_is_identity.Goals as goal

pub returns : goal.returns
returns c = record { law = λ a b. term_decides a b }
