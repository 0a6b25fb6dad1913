use Rattle.nquads_core.proofs.Forms.{forms_are_distinct, forms_denote, slices_denote_terms}
use Rattle.nquads_core.proofs.laws.forms_identify_terms.Goals as goal

pub returns : goal.returns
returns c = record { distinct = forms_are_distinct; denote = forms_denote; slices = slices_denote_terms }
