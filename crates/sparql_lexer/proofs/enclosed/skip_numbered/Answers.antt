use Rattle.std.proofs.Common.{None}
use Rattle.sparql_lexer.specs.Pattern.{is, ◌▸◌}
use Rattle.sparql_lexer.specs.Enclosed.{four_digits}
use Rattle.sparql_lexer.proofs.PatternLaws.{then_none, then_sure, only_left, only_right}
use Rattle.sparql_lexer.proofs.ProductionLaws.{sure_is, sure_four, nowhere_eight}
use Rattle.sparql_lexer.proofs.enclosed.skip_numbered.Goals as goal

pub returns-in-Some : goal.returns-in-Some
returns-in-Some c = only_left (is 117 ▸ four_digits) (is 85 ▸ four_digits ▸ four_digits) c.args.text.now c.skip_four_digits.result (nowhere_eight c.in-Some.ensures.matches) (then_sure four_digits c.skip_four_digits.result (sure_is 117) c.in-Some.ensures.matches c.skip_four_digits.ensures)

pub returns-in_err-last : goal.returns-in_err-last
returns-in_err-last c = rw c.from_residual-in_err-last.ensures (only_right (is 117 ▸ four_digits) (is 85 ▸ four_digits ▸ four_digits) c.args.text.now None (then_none (is 117) four_digits c.args.text.now c.in_default.ensures) (then_sure (four_digits ▸ four_digits) None (sure_is 85) c.in_ok-digits.ensures.matches (then_none four_digits four_digits c.in_ok-digits.digits.now c.in_err-last.ensures)))

pub returns : goal.returns
returns c = only_right (is 117 ▸ four_digits) (is 85 ▸ four_digits ▸ four_digits) c.args.text.now c.skip_four_digits-3.result (then_none (is 117) four_digits c.args.text.now c.in_default.ensures) (then_sure (four_digits ▸ four_digits) c.skip_four_digits-3.result (sure_is 85) c.in_ok-digits.ensures.matches (then_sure four_digits c.skip_four_digits-3.result sure_four c.in_ok-last.ensures.matches c.skip_four_digits-3.ensures))
