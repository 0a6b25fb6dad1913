use Rattle.term_values.proofs.EqualityLaws.{equal_terms_meet}
use Rattle.term_values.proofs.equality.equal_terms_have_one_key.Goals as goal

pub returns : goal.returns
returns c = record { law = equal_terms_meet }
