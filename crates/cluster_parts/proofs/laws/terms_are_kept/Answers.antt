use Rattle.cluster_parts.proofs.TermListLaws.{terms_are_kept}
use Rattle.cluster_parts.proofs.laws.terms_are_kept.Goals as goal

pub returns : goal.returns
returns c = record { law = terms_are_kept }
