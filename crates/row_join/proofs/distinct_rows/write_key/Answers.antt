use Rattle.std.proofs.Common.{ap, ◌∙◌, length, arith}
use Rattle.std.proofs.lemmas.List.{take_all}
use Rattle.row_join.specs.RowKeys.{row_numbers}
use Rattle.row_join.proofs.DistinctLaws.{length-numbers}
use Rattle.row_join.proofs.distinct_rows.write_key.Goals as goal

pub returns-clause-wide : goal.returns-clause-wide
returns-clause-wide c = ap length (c.loop-i.invariant ∙ ap row_numbers (take_all c.loop-i.i c.args.row.now (omega arith))) ∙ length-numbers c.args.row.now
