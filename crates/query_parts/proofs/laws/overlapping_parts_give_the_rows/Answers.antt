use Rattle.query_parts.proofs.RowLaws.{overlapping_parts_give_rows}
use Rattle.query_parts.proofs.laws.overlapping_parts_give_the_rows.Goals as goal

pub returns : goal.returns
returns c = record { law = overlapping_parts_give_rows }
