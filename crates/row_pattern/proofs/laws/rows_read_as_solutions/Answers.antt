use Rattle.row_pattern.proofs.ReadingLaws.{rows-read}
use Rattle.row_pattern.proofs.laws.rows_read_as_solutions.Goals as goal

pub returns : goal.returns
returns c = record { law = rows-read }
