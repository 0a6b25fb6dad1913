use Rattle.term_values.proofs.FormLaws.{keys_are_of_forms}
use Rattle.term_values.proofs.equality.keys_are_of_forms.Goals as goal

pub returns : goal.returns
returns c = record { law = keys_are_of_forms }
