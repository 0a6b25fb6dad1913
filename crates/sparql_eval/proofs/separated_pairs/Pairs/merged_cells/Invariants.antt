use Rattle.sparql_eval.specs.Numbered.{IsKnownRow}
use Rattle.sparql_eval.proofs.separated_pairs.Pairs.merged_cells.Given as goal

abbrev pub invariant-loop-variable : goal.invariant-loop-variable
invariant-loop-variable l = IsKnownRow l.self.dict.now l.cells.items
