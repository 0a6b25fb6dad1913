use Rattle.query_parts.proofs.SolutionTags.{rows_are_tagged}
use Rattle.query_parts.proofs.laws.rows_are_tagged.Goals as goal

pub returns : goal.returns
returns c = record { law = rows_are_tagged }
