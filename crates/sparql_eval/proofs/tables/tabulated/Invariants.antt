use Rattle.std.proofs.Common.{◌≡◌, take, map}
use Rattle.algebra_model.specs.Operators.{table}
use Rattle.algebra_model.specs.Renaming.{Each}
use Rattle.dict_core.specs.Dict.{IsGrown}
use Rattle.sparql_eval.specs.Computed.{IsCell, TakesOnly}
use Rattle.sparql_eval.proofs.ReadingLaws.{Known, read_by}
use Rattle.sparql_eval.proofs.tables.tabulated.Given as goal

abbrev pub invariant-loop-cells : goal.invariant-loop-cells
invariant-loop-cells l = record {
  width : l.made.width ≡ l.width;
  grown : IsGrown l.initial.dict l.dict;
  known : Each (Known l.dict) l.made.rows;
  made : map (read_by l.dict) l.made.rows ≡ table l.width l.variables (map (λ row. row.items) (take l.cells-index l.rows));
  needed : TakesOnly (IsCell l.variables (map (λ row. row.items) l.rows)) l.initial.dict l.dict;
}
