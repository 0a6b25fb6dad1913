use Rattle.dict_core.proofs.MergingSteps.{interned}
use Rattle.dict_core.proofs.local_piece.number_term.Goals as goal
use Rattle.dict_core.proofs.local_piece.number_term.Goals.{in-Ok, in-Err}

pub returns-clause-terms : goal.returns-clause-terms
returns-clause-terms c =
    elim c.match-intern.branch [ in-Ok w ↦ rw w.result-is (interned _ _ _ w.in-Ok.ensures.known w.in-Ok.ensures.new) | in-Err w ↦ rw w.result-is tt ]
