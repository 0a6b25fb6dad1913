use Rattle.std.proofs.Common.{arith}
use Rattle.sparql_eval.proofs.SeparatedSteps.{cell_known}
use Rattle.sparql_eval.proofs.separated_pairs.cell_of.Goals as goal

pub returns-then-variable-width : goal.returns-then-variable-width
returns-then-variable-width c = record { known = cell_known c.args.dict.now c.args.rows.now.rows c.requires.known c.args.row c.args.variable (omega arith) c.get.result c.get.ensures.value }
