use Rattle.result_merge.proofs.PlaceLaws.{have_places}
use Rattle.result_merge.proofs.columns.begun_columns.Goals as goal

pub returns-clause-places : goal.returns-clause-places
returns-clause-places c = have_places c.args.names.now c.in_ok-made.made.items c.in_ok-made.ensures.columns
