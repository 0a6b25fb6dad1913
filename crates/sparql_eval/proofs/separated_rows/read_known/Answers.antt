use Rattle.std.proofs.lemmas.Result.{on_ok_weaker}
use Rattle.sparql_eval.proofs.separated_rows.read_known.Goals as goal

pub returns : goal.returns
returns c = record {
  known = on_ok_weaker c.read.result (λ found. c.requires.known c.args.row c.read.new.row.items found) c.read.ensures.found;
  wide = c.read.ensures.wide;
}
