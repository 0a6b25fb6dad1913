use Rattle.std.proofs.Common.{nat_eq}
use Rattle.sparql_lexer.specs.Candidates.{either}
use Rattle.sparql_lexer.specs.Enclosed.{iri, anonymous, short_string, long_string}
use Rattle.sparql_lexer.specs.Pattern.{◌or◌}
use Rattle.sparql_lexer.proofs.RowLaws.{row-iri_ref, row-anonymous, row-short_string, row-long_string}
use Rattle.sparql_lexer.proofs.candidates.scan_enclosed.Goals as goal

pub returns : goal.returns
returns c = c.longer-3.ensures (either (nat_eq 0) (nat_eq 5)) (either (nat_eq 13) (nat_eq 14)) c.args.text.now (c.longer.ensures (nat_eq 0) (nat_eq 5) c.args.text.now (c.of_kind-iri.ensures iri c.args.text.now row-iri_ref c.skip_enclosed.ensures) (c.of_kind-anonymous.ensures anonymous c.args.text.now row-anonymous c.skip_enclosed-2.ensures)) (c.longer-2.ensures (nat_eq 13) (nat_eq 14) c.args.text.now (c.of_kind-short.ensures (short_string 39 or short_string 34) c.args.text.now row-short_string c.skip_short.ensures) (c.of_kind-long.ensures (long_string 39 or long_string 34) c.args.text.now row-long_string c.skip_long.ensures))
