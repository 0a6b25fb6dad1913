use Rattle.std.proofs.Common.{◌≡◌, map, take}
use Rattle.result_json.specs.Texts.{column_of}
use Rattle.result_json.specs.Results.{listed_names, numbered}
use Rattle.result_json.proofs.columns.numbered.Given as goal

abbrev pub invariant-loop-place : goal.invariant-loop-place
invariant-loop-place l = map column_of l.columns.items ≡ numbered 0 (listed_names l.names (take l.place l.listed))
