use Rattle.std.proofs.Common.{None}
use Rattle.rdf_core.specs.Characters.{is_hex}
use Rattle.sparql_lexer.specs.Pattern.{character, ◌▸◌}
use Rattle.sparql_lexer.proofs.PatternLaws.{then_none, then_sure}
use Rattle.sparql_lexer.proofs.ProductionLaws.{sure_hex}
use Rattle.sparql_lexer.proofs.enclosed.skip_four_digits.Goals as goal

pub returns-in_err-two : goal.returns-in_err-two
returns-in_err-two c = rw c.from_residual-in_err-two.ensures (then_sure (character is_hex ▸ character is_hex ▸ character is_hex) None sure_hex c.in_ok-one.ensures.matches (then_none (character is_hex) (character is_hex ▸ character is_hex) c.in_ok-one.one.now c.in_err-two.ensures))

pub returns-in_err-three : goal.returns-in_err-three
returns-in_err-three c = rw c.from_residual-in_err-three.ensures (then_sure (character is_hex ▸ character is_hex ▸ character is_hex) None sure_hex c.in_ok-one.ensures.matches (then_sure (character is_hex ▸ character is_hex) None sure_hex c.in_ok-two.ensures.matches (then_none (character is_hex) (character is_hex) c.in_ok-two.two.now c.in_err-three.ensures)))

pub returns : goal.returns
returns c = then_sure (character is_hex ▸ character is_hex ▸ character is_hex) c.accept_one-4.result sure_hex c.in_ok-one.ensures.matches (then_sure (character is_hex ▸ character is_hex) c.accept_one-4.result sure_hex c.in_ok-two.ensures.matches (then_sure (character is_hex) c.accept_one-4.result sure_hex c.in_ok-three.ensures.matches c.accept_one-4.ensures))
