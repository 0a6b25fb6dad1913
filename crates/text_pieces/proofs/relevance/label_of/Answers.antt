use Rattle.text_pieces.proofs.RelevanceSteps.{label_form}
use Rattle.text_pieces.proofs.relevance.label_of.Goals as goal

pub returns-in-Some : goal.returns-in-Some
returns-in-Some c = record { node = label_form c.in-Some.raw (rw c.in-Some.is at c.requires.valid) }
