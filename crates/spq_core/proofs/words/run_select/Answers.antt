use Rattle.spq_core.proofs.words.run_select.Goals as goal

pub returns-in-Err-clause-cause : goal.returns-in-Err-clause-cause
returns-in-Err-clause-cause g c = rw c.not_run.ensures.done (c.run_fault.ensures.cause (g.S.Source.left c.args.reader))
