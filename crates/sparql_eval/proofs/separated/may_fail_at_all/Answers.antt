use Rattle.sparql_eval.proofs.ReadingLaws.{rows_known_at}
use Rattle.sparql_eval.proofs.separated.may_fail_at_all.Goals as goal

pub may_fail-requires : goal.may_fail-requires
may_fail-requires c = record { known = rows_known_at c.args.dict.now c.args.left.now.rows c.requires.known_left }

pub may_fail-requires-else-may_fail : goal.may_fail-requires-else-may_fail
may_fail-requires-else-may_fail c = record { known = rows_known_at c.args.dict.now c.args.right.now.rows c.requires.known_right }
