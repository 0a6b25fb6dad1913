use Rattle.sparql_eval.proofs.ReadingLaws.{rows_known_at}
use Rattle.sparql_eval.proofs.separated.add_separated.Goals as goal

pub invariant_of-pairs : goal.invariant_of-pairs
invariant_of-pairs c = record {
  same_width = c.requires.same_width;
  known_left = rows_known_at c.args.dict.now c.args.left.now.rows c.requires.known_left;
  known_right = rows_known_at c.args.dict.now c.args.right.now.rows c.requires.known_right;
}
