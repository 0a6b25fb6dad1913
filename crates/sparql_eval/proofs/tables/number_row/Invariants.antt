use Rattle.std.proofs.Common.{◌≡◌, length, take, drop, Some, Contains}
use Rattle.algebra_model.specs.Operators.{table_row}
use Rattle.algebra_model.specs.Renaming.{read_row}
use Rattle.dict_core.specs.Dict.{IsGrown, term_at}
use Rattle.sparql_eval.specs.Computed.{TakesOnly}
use Rattle.sparql_eval.specs.Numbered.{IsKnownRow}
use Rattle.sparql_eval.proofs.tables.number_row.Given as goal

abbrev pub invariant-loop-i : goal.invariant-loop-i
invariant-loop-i l = record {
  grown : IsGrown l.fn.dict l.dict;
  wide : length l.row.items ≡ l.width;
  known : IsKnownRow l.dict l.row.items;
  read : read_row (term_at l.dict) l.row.items ≡ table_row l.width (drop l.i l.variables) (drop l.i l.cells);
  needed : TakesOnly (λ t. Contains (take (length l.variables) l.cells) (Some t)) l.fn.dict l.dict;
}
