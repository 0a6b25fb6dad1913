use Rattle.std.proofs.Common.{Some, None}
use Rattle.sparql_lexer.specs.Characters.{is_label_start, is_name_part}
use Rattle.sparql_lexer.specs.Pattern.{character, is, ◌▸◌}
use Rattle.sparql_lexer.specs.Names.{tail}
use Rattle.sparql_lexer.proofs.PatternLaws.{sure_character, then_none, then_sure}
use Rattle.sparql_lexer.proofs.ProductionLaws.{sure_is}
use Rattle.sparql_lexer.proofs.names.skip_blank_label.Goals as goal

pub returns-in_err-label : goal.returns-in_err-label
returns-in_err-label c = rw c.from_residual-in_err-label.ensures (then_sure (is 58 ▸ character is_label_start ▸ tail (character is_name_part)) None (sure_is 95) c.in_ok-colon.ensures.matches (then_none (is 58) (character is_label_start ▸ tail (character is_name_part)) c.in_ok-colon.colon.now c.in_err-label.ensures))

pub returns-in_err-after : goal.returns-in_err-after
returns-in_err-after c = rw c.from_residual-in_err-after.ensures (then_sure (is 58 ▸ character is_label_start ▸ tail (character is_name_part)) None (sure_is 95) c.in_ok-colon.ensures.matches (then_sure (character is_label_start ▸ tail (character is_name_part)) None (sure_is 58) c.in_ok-label.ensures.matches (then_none (character is_label_start) (tail (character is_name_part)) c.in_ok-label.label.now c.in_err-after.ensures)))

pub returns : goal.returns
returns c = then_sure (is 58 ▸ character is_label_start ▸ tail (character is_name_part)) (Some c.skip_tail.result) (sure_is 95) c.in_ok-colon.ensures.matches (then_sure (character is_label_start ▸ tail (character is_name_part)) (Some c.skip_tail.result) (sure_is 58) c.in_ok-label.ensures.matches (then_sure (tail (character is_name_part)) (Some c.skip_tail.result) (sure_character is_label_start) c.in_ok-after.ensures.matches c.skip_tail.ensures))
