use Rattle.sparql_eval.proofs.UnionSteps.{united}
use Rattle.sparql_eval.proofs.unions.union_of.Goals as goal

pub returns-clause-evaluated : goal.returns-clause-evaluated
returns-clause-evaluated c =
    united c.args.dict c.args.left.width c.args.left c.args.right c.append.new.self c.in_ok-append.ensures.width c.requires.known_left c.requires.known_right c.in_ok-append.ensures.added
