use Rattle.std.proofs.Common.{◌∙◌, sym}
use Rattle.sparql_lexer.proofs.RowLaws.{sign_pair, sign_single, sign_none, sign_end}
use Rattle.sparql_lexer.proofs.signs.scan_sign.Goals as goal

pub returns-in_err-first : goal.returns-in_err-first
returns-in_err-first c = rw c.from_residual.ensures (sign_end c.args.text.now c.in_err-first.ensures)

pub returns-in-Some : goal.returns-in-Some
returns-in-Some c = let h = c.in-Some.ensures in sign_pair c.args.text.now c.in_ok-first.after.now c.in-Some.remaining.now c.in_ok-first.first h.0 c.in-Some.sign c.in_ok-first.ensures h.1 h.2

pub returns-in-Some-sign_of_one : goal.returns-in-Some-sign_of_one
returns-in-Some-sign_of_one c = sign_single c.args.text.now c.in_ok-first.after.now c.in_ok-first.first c.in-Some-sign_of_one.sign c.in_ok-first.ensures c.in_default.ensures (sym c.sign_of_one.ensures ∙ c.in-Some-sign_of_one.is)

pub returns-in-None : goal.returns-in-None
returns-in-None c = sign_none c.args.text.now c.in_ok-first.after.now c.in_ok-first.first c.in_ok-first.ensures c.in_default.ensures (sym c.sign_of_one.ensures ∙ c.in-None.is)
