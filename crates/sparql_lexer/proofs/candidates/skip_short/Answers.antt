use Rattle.sparql_lexer.specs.Enclosed.{short_string}
use Rattle.sparql_lexer.proofs.candidates.skip_short.Goals as goal

pub returns : goal.returns
returns c = c.farther.ensures (short_string 39) (short_string 34) c.args.text.now c.skip_enclosed-single.ensures c.skip_enclosed-double.ensures
