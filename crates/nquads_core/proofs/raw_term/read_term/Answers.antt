use Rattle.nquads_core.proofs.TermReads.{none_denoted, one_denoted, term_denotes}
use Rattle.nquads_core.proofs.raw_term.read_term.Goals as goal

pub returns-in-Ok : goal.returns-in-Ok
returns-in-Ok c = record {
  denotes = term_denotes c.args.raw.now c.in-Ok.term c.utf8.raw c.in-Ok.ensures;
  complete = λ t d. one_denoted c.args.raw.now t c.in-Ok.term c.in-Ok.ensures d;
}

pub returns-in-Err-Bad : goal.returns-in-Err-Bad
returns-in-Err-Bad c = record { denotes = tt; complete = λ t d. none_denoted c.args.raw.now t c.in-Err-Bad.field-0 c.in-Err-Bad.field-0-is c.in-Err-Bad.ensures d }
