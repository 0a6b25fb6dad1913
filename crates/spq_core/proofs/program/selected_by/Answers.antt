use Rattle.spq_core.proofs.program.selected_by.Goals as goal

pub returns-in-Err-clause-cause : goal.returns-in-Err-clause-cause
returns-in-Err-clause-cause g c = c.run_fault.ensures.cause (g.S.Source.left c.args.reader.now)
