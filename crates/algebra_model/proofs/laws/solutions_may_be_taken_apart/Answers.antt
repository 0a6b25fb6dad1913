use Rattle.rdf_core.proofs.TermLaws.{term_eq, term_decides}
use Rattle.algebra_model.proofs.CongruenceLaws.{left_join-by_row}
use Rattle.algebra_model.proofs.PieceLaws.{flat_map-joined}
use Rattle.algebra_model.proofs.laws.solutions_may_be_taken_apart.Goals as goal

pub returns-clause-left_join : goal.returns-clause-left_join
returns-clause-left_join c = λ keeps A B. left_join-by_row term_eq term_decides keeps B A

pub returns-clause-pieces : goal.returns-clause-pieces
returns-clause-pieces c = λ f pieces. flat_map-joined f pieces
