use Rattle.result_merge.specs.Reading.{text_of}
use Rattle.result_merge.proofs.rows.read_row.Goals as goal

pub returns-clause-row : goal.returns-clause-row
returns-clause-row c =
    (c.in_ok-cells.ensures.width, c.split_before.ensures.front (text_of c.args.columns.now c.in_ok-cells.cells.items) c.in_ok-cells.ensures.parts, c.in_ok-cells.ensures.tagged)

pub returns-clause-parts : goal.returns-clause-parts
returns-clause-parts c = c.split_before.ensures.parts
