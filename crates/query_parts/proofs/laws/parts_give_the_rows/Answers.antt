use Rattle.query_parts.proofs.RowLaws.{parts_give_rows}
use Rattle.query_parts.proofs.laws.parts_give_the_rows.Goals as goal

pub returns : goal.returns
returns c = record { law = parts_give_rows }
