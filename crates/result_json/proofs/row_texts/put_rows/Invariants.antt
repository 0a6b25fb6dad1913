use Rattle.std.proofs.Common.{◌≡◌, ◌++◌, length, map}
use Rattle.result_json.specs.RankedRows.{ranks_of}
use Rattle.result_json.specs.Texts.{begun_column, begun_row, comma_texts}
use Rattle.result_json.proofs.row_texts.put_rows.Given as goal

abbrev pub invariant-loop-rest : goal.invariant-loop-rest
invariant-loop-rest l =
    l.out.items ++ comma_texts l.later (map (begun_row l.texts (map begun_column l.columns)) (ranks_of l.rest))
    ≡ l.initial.out.items ++ comma_texts l.initial.later (map (begun_row l.texts (map begun_column l.columns)) (ranks_of l.rows))

abbrev pub decreases-loop-rest : goal.decreases-loop-rest
decreases-loop-rest l = length l.rest
