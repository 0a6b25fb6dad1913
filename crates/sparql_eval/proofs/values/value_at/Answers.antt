use Rattle.algebra_model.specs.Expression.{val}
use Rattle.algebra_model.specs.Renaming.{read_row}
use Rattle.dict_core.specs.Dict.{term_at}
use Rattle.expression_values.specs.ExpressionOf.{expression_of}
use Rattle.sparql_eval.proofs.TakingLaws.{took_value}
use Rattle.sparql_eval.proofs.values.value_at.Goals as goal

pub returns-in-Ok-clause-needed : goal.returns-in-Ok-clause-needed
returns-in-Ok-clause-needed c =
    let value = val (expression_of c.args.expression.now) (read_row (term_at c.args.row.now.dict.now) c.args.row.now.row.now) in
    took_value c.number_term.result value c.in-Ok.term c.args.own.now c.number_term.new.own c.in-Ok.ensures.value c.number_term.ensures.needed
