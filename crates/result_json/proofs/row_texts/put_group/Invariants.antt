use Rattle.std.proofs.Common.{◌≡◌, ◌++◌, drop, map}
use Rattle.result_json.specs.RankedRows.{ranks_of}
use Rattle.result_json.specs.Texts.{begun_column, begun_row, comma_texts}
use Rattle.result_json.proofs.row_texts.put_group.Given as goal

abbrev pub invariant-loop-i : goal.invariant-loop-i
invariant-loop-i l =
    l.out.items ++ comma_texts l.later (map (begun_row l.texts (map begun_column l.columns)) (ranks_of (drop l.i l.rows)))
    ≡ l.initial.out.items ++ comma_texts l.initial.later (map (begun_row l.texts (map begun_column l.columns)) (ranks_of l.rows))
