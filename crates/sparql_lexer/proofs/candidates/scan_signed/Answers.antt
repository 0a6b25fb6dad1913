use Rattle.std.proofs.Common.{nat_eq}
use Rattle.sparql_lexer.specs.Candidates.{either}
use Rattle.sparql_lexer.specs.Numbers.{integer, decimal, double, signed}
use Rattle.sparql_lexer.proofs.RowLaws.{row-signed_integer, row-signed_decimal, row-signed_double}
use Rattle.sparql_lexer.proofs.candidates.scan_signed.Goals as goal

pub returns : goal.returns
returns c = c.longer-2.ensures (nat_eq 10) (either (nat_eq 11) (nat_eq 12)) c.args.text.now (c.of_kind-integer.ensures (signed integer) c.args.text.now row-signed_integer c.skip_signed.ensures) (c.longer.ensures (nat_eq 11) (nat_eq 12) c.args.text.now (c.of_kind-decimal.ensures (signed decimal) c.args.text.now row-signed_decimal c.skip_signed-2.ensures) (c.of_kind-double.ensures (signed double) c.args.text.now row-signed_double c.skip_signed-3.ensures))
