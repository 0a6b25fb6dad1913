use Rattle.std.proofs.Common.{nat_eq}
use Rattle.sparql_lexer.specs.Candidates.{either}
use Rattle.sparql_lexer.specs.Numbers.{integer, decimal, double}
use Rattle.sparql_lexer.proofs.RowLaws.{row-integer, row-decimal, row-double}
use Rattle.sparql_lexer.proofs.candidates.scan_number.Goals as goal

pub returns : goal.returns
returns c = c.longer-2.ensures (nat_eq 7) (either (nat_eq 8) (nat_eq 9)) c.args.text.now (c.of_kind-integer.ensures integer c.args.text.now row-integer c.skip_number.ensures) (c.longer.ensures (nat_eq 8) (nat_eq 9) c.args.text.now (c.of_kind-decimal.ensures decimal c.args.text.now row-decimal c.skip_number-2.ensures) (c.of_kind-double.ensures double c.args.text.now row-double c.skip_number-3.ensures))
