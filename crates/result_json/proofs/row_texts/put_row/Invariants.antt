use Rattle.std.proofs.Common.{◌≡◌, ◌++◌, codes, map, take}
use Rattle.result_json.specs.Results.{separated}
use Rattle.result_json.specs.Texts.{begun_column, begun_members}
use Rattle.result_json.proofs.SeparatedLaws.{is_cons}
use Rattle.result_json.proofs.row_texts.put_row.Given as goal

abbrev pub invariant-loop-k : goal.invariant-loop-k
invariant-loop-k l = record {
  text : l.out.items ≡ l.fn.out.items ++ (codes "{" ++ separated (begun_members l.texts l.row.ranks.now (map begun_column (take l.k l.columns))));
  later : l.later ≡ is_cons (begun_members l.texts l.row.ranks.now (map begun_column (take l.k l.columns)));
}
