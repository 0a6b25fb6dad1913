use Rattle.algebra_model.specs.Renaming.{read_row}
use Rattle.dict_core.specs.Dict.{term_at}
use Rattle.sparql_eval.proofs.joins.ConditionRowTest.is_certain.Goals as goal

pub returns : goal.returns
returns c = record { all = λ e row. c.args.self.now.certain e (read_row (term_at c.args.self.now.dict.now) row) }
