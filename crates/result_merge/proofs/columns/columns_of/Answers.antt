use Rattle.result_json.proofs.ColumnLaws.{sorted_columns}
use Rattle.result_merge.proofs.columns.columns_of.Goals as goal

pub returns : goal.returns
returns c = record { columns = sorted_columns c.args.names.now c.in_ok-columns.columns.items c.sort.new.self.items c.in_ok-columns.ensures.columns c.in_ok-sort.ensures.permutation c.in_ok-sort.ensures.sorted }
