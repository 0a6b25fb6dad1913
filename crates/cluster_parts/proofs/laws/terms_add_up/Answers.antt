use Rattle.cluster_parts.proofs.AddUpLaws.{terms_add_up, names_add_up}
use Rattle.cluster_parts.proofs.laws.terms_add_up.Goals as goal

pub returns : goal.returns
returns c = record { terms = terms_add_up; names = names_add_up }
