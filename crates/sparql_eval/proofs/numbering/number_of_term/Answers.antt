use Rattle.sparql_eval.proofs.TakingLaws.{took_same}
use Rattle.sparql_eval.proofs.numbering.number_of_term.Goals as goal

pub returns-clause-needed : goal.returns-clause-needed
returns-clause-needed c =
    took_same c.number_new.result c.in_ok-copy.field-0 c.args.term.now c.args.dict.now c.number_new.new.dict c.in_ok-copy.ensures.equal c.number_new.ensures.needed
