use Rattle.sparql_eval.proofs.FittingSteps.{fits_turned}
use Rattle.sparql_eval.proofs.keyed_rows.oriented.Goals as goal

pub returns-then-binds-4 : goal.returns-then-binds-4
returns-then-binds-4 c = record { required = fits_turned c.args.pair }
