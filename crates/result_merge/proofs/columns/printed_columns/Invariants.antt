use Rattle.std.proofs.Common.{◌≡◌, map, take}
use Rattle.result_json.specs.Texts.{begun, begun_column, column_of}
use Rattle.result_merge.proofs.columns.printed_columns.Given as goal

abbrev pub invariant-loop-name : goal.invariant-loop-name
invariant-loop-name l = map begun_column l.made.items ≡ map begun (map column_of (take l.name-index l.name-items))
