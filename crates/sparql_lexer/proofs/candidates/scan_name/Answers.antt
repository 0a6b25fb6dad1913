use Rattle.std.proofs.Common.{nat_eq}
use Rattle.sparql_lexer.specs.Candidates.{either}
use Rattle.sparql_lexer.specs.Names.{namespace, prefixed_name}
use Rattle.sparql_lexer.proofs.RowLaws.{row-prefixed_namespace, row-prefixed_name}
use Rattle.sparql_lexer.proofs.candidates.scan_name.Goals as goal

pub returns : goal.returns
returns c = c.longer-2.ensures (nat_eq 15) (either (nat_eq 2) (nat_eq 3)) c.args.text.now c.scan_word-word.ensures (c.longer.ensures (nat_eq 2) (nat_eq 3) c.args.text.now (c.of_kind-namespace.ensures namespace c.args.text.now row-prefixed_namespace c.skip_namespace_from.ensures) (c.of_kind-name.ensures prefixed_name c.args.text.now row-prefixed_name c.skip_prefixed_name_from.ensures))
