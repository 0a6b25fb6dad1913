use Rattle.std.proofs.Common.{None}
use Rattle.rdf_core.specs.Characters.{is_hex}
use Rattle.sparql_lexer.specs.Characters.{is_local_escape}
use Rattle.sparql_lexer.specs.Pattern.{character, is, ◌▸◌}
use Rattle.sparql_lexer.proofs.PatternLaws.{then_none, then_sure, only_left, only_right}
use Rattle.sparql_lexer.proofs.ProductionLaws.{sure_is, sure_hex, nowhere_percent}
use Rattle.sparql_lexer.proofs.names.skip_local_escape.Goals as goal

pub returns-in_err-last : goal.returns-in_err-last
returns-in_err-last c = rw c.from_residual.ensures (only_left (is 37 ▸ character is_hex ▸ character is_hex) (is 92 ▸ character is_local_escape) c.args.text.now None (nowhere_percent c.in-Some.ensures.matches) (then_sure (character is_hex ▸ character is_hex) None (sure_is 37) c.in-Some.ensures.matches (then_none (character is_hex) (character is_hex) c.in-Some.digits.now c.in_err-last.ensures)))

pub returns-in-Some : goal.returns-in-Some
returns-in-Some c = only_left (is 37 ▸ character is_hex ▸ character is_hex) (is 92 ▸ character is_local_escape) c.args.text.now c.accept_one-in-Some.result (nowhere_percent c.in-Some.ensures.matches) (then_sure (character is_hex ▸ character is_hex) c.accept_one-in-Some.result (sure_is 37) c.in-Some.ensures.matches (then_sure (character is_hex) c.accept_one-in-Some.result sure_hex c.in_ok-last.ensures.matches c.accept_one-in-Some.ensures))

pub returns : goal.returns
returns c = only_right (is 37 ▸ character is_hex ▸ character is_hex) (is 92 ▸ character is_local_escape) c.args.text.now c.accept_one-2.result (then_none (is 37) (character is_hex ▸ character is_hex) c.args.text.now c.in_default.ensures) (then_sure (character is_local_escape) c.accept_one-2.result (sure_is 92) c.in_ok-after.ensures.matches c.accept_one-2.ensures)
