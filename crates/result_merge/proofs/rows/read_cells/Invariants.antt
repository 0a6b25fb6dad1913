use Rattle.std.proofs.Common.{◌≡◌, ◌++◌, codes, length, map, take}
use Rattle.algebra_model.specs.Renaming.{Each}
use Rattle.result_json.specs.Results.{separated}
use Rattle.result_json.specs.Texts.{begun_column}
use Rattle.result_json.proofs.SeparatedLaws.{is_cons}
use Rattle.result_merge.specs.Reading.{row_members}
use Rattle.result_merge.specs.Tags.{HasTagType}
use Rattle.result_merge.proofs.RowSteps.{IsRowAt}
use Rattle.result_merge.proofs.rows.read_cells.Given as goal

abbrev pub invariant-loop-k : goal.invariant-loop-k
invariant-loop-k l = record {
  width : length l.cells.items ≡ l.width;
  text : l.bytes ≡ codes "{" ++ (separated (row_members l.cells.items (map begun_column (take l.k l.columns))) ++ l.rest);
  tagged : Each HasTagType l.cells.items;
  there : IsRowAt l.columns l.k l.bytes l.rest l.later;
  later : l.later ≡ is_cons (row_members l.cells.items (map begun_column (take l.k l.columns)));
}
