use Rattle.sparql_eval.proofs.ReadingLaws.{grown_interned, number_known, number_read}
use Rattle.sparql_eval.proofs.TakingLaws.{takes_interned}
use Rattle.sparql_eval.proofs.numbering.number_new.Goals as goal
use Rattle.sparql_eval.proofs.numbering.number_new.Goals.{in-Ok, in-Err}

pub returns-clause-grown : goal.returns-clause-grown
returns-clause-grown c =
    elim c.match-intern.branch [ in-Ok w ↦ rw w.result-is (grown_interned _ _ _ w.in-Ok.ensures.known w.in-Ok.ensures.new) | in-Err w ↦ rw w.result-is tt ]

pub returns-clause-known : goal.returns-clause-known
returns-clause-known c =
    elim c.match-intern.branch [ in-Ok w ↦ rw w.result-is (number_known c.intern.new.self w.in-Ok.number c.args.term w.in-Ok.ensures.number) | in-Err w ↦ rw w.result-is tt ]

pub returns-clause-read : goal.returns-clause-read
returns-clause-read c =
    elim c.match-intern.branch [ in-Ok w ↦ rw w.result-is (number_read c.intern.new.self w.in-Ok.number c.args.term w.in-Ok.ensures.number) | in-Err w ↦ rw w.result-is tt ]

pub returns-clause-needed : goal.returns-clause-needed
returns-clause-needed c =
    elim c.match-intern.branch [ in-Ok w ↦ rw w.result-is (takes_interned c.args.dict.now c.intern.new.self c.args.term w.in-Ok.ensures.known w.in-Ok.ensures.new) | in-Err w ↦ rw w.result-is tt ]
