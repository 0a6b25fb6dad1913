use Rattle.sparql_eval.proofs.TakingLaws.{takes_value}
use Rattle.sparql_eval.proofs.tables.number_cell.Goals as goal

pub returns-in_ok-number_of_term-in-Some-clause-needed : goal.returns-in_ok-number_of_term-in-Some-clause-needed
returns-in_ok-number_of_term-in-Some-clause-needed c =
    takes_value c.args.cell.now _ c.args.dict.now c.number_of_term.new.dict c.in-Some.is c.in_ok-number_of_term-in-Some.ensures.needed
