use Rattle.std.proofs.Common.{◌≡◌, map, take}
use Rattle.result_json.specs.Results.{numbered}
use Rattle.result_json.specs.Texts.{column_of}
use Rattle.result_merge.proofs.columns.numbered.Given as goal

abbrev pub invariant-loop-place : goal.invariant-loop-place
invariant-loop-place l = map column_of l.columns.items ≡ numbered 0 (take l.place l.names)
