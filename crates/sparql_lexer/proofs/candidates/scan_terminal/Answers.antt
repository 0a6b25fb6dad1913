use Rattle.std.proofs.Common.{nat_eq}
use Rattle.sparql_lexer.specs.Candidates.{either, name_rows, number_rows, signed_rows, enclosed_rows, marked_rows}
use Rattle.sparql_lexer.proofs.RowLaws.{of_all}
use Rattle.sparql_lexer.proofs.candidates.scan_terminal.Goals as goal

pub returns : goal.returns
returns c = of_all c.args.text.now c.longer-3.result (c.longer-3.ensures name_rows (either (either number_rows signed_rows) (either (either enclosed_rows marked_rows) (nat_eq 16))) c.args.text.now c.scan_name-name.ensures (c.longer-2.ensures (either number_rows signed_rows) (either (either enclosed_rows marked_rows) (nat_eq 16)) c.args.text.now (c.longer-number.ensures number_rows signed_rows c.args.text.now c.scan_number.ensures c.scan_signed.ensures) (c.longer.ensures (either enclosed_rows marked_rows) (nat_eq 16) c.args.text.now (c.longer-other.ensures enclosed_rows marked_rows c.args.text.now c.scan_enclosed.ensures c.scan_marked.ensures) c.scan_sign-sign.ensures)))
