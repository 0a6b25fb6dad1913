use Rattle.sparql_lexer.specs.Pattern.{is, many, some, ◌▸◌, ◌or◌}
use Rattle.sparql_lexer.specs.Numbers.{digit, exponent}
use Rattle.sparql_lexer.proofs.numbers.skip_double.Goals as goal

pub returns : goal.returns
returns c = c.farther-2.ensures (some digit ▸ is 46 ▸ many digit ▸ exponent) ((is 46 ▸ some digit ▸ exponent) or (some digit ▸ exponent)) c.args.text.now c.skip_pointed-pointed.ensures (c.farther.ensures (is 46 ▸ some digit ▸ exponent) (some digit ▸ exponent) c.args.text.now c.skip_fraction-fraction.ensures c.skip_whole-whole.ensures)
