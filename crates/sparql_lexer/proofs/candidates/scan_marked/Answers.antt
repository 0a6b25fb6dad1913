use Rattle.std.proofs.Common.{nat_eq}
use Rattle.sparql_lexer.specs.Candidates.{either}
use Rattle.sparql_lexer.specs.Names.{variable, blank_label, language_tag}
use Rattle.sparql_lexer.proofs.RowLaws.{row-variable, row-blank_label, row-language_tag}
use Rattle.sparql_lexer.proofs.candidates.scan_marked.Goals as goal

pub returns : goal.returns
returns c = c.longer-2.ensures (nat_eq 1) (either (nat_eq 4) (nat_eq 6)) c.args.text.now (c.of_kind-variable.ensures variable c.args.text.now row-variable c.skip_variable.ensures) (c.longer.ensures (nat_eq 4) (nat_eq 6) c.args.text.now (c.of_kind-label.ensures blank_label c.args.text.now row-blank_label c.skip_blank_label.ensures) (c.of_kind-tag.ensures language_tag c.args.text.now row-language_tag c.skip_language_tag.ensures))
