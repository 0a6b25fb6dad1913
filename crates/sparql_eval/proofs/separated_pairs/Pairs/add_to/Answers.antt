use Rattle.sparql_eval.proofs.separated_pairs.Pairs.add_to.Goals as goal

pub returns-then-branch : goal.returns-then-branch
returns-then-branch c = record { evaluated = λ w A h. c.add_side-then-branch.ensures.evaluated w A (c.add_side.ensures.evaluated w A h) }
