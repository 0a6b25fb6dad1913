use Rattle.text_pieces.proofs.RelevanceSteps.{subject_form}
use Rattle.text_pieces.proofs.relevance.subject_of.Goals as goal

pub returns-in-Some : goal.returns-in-Some
returns-in-Some c = record { node = subject_form c.in-Some.raw (rw c.in-Some.is at c.requires.valid) }
