use Rattle.sparql_lexer.specs.Enclosed.{long_string}
use Rattle.sparql_lexer.proofs.candidates.skip_long.Goals as goal

pub returns : goal.returns
returns c = c.farther.ensures (long_string 39) (long_string 34) c.args.text.now c.skip_enclosed-single.ensures c.skip_enclosed-double.ensures
