use Rattle.std.proofs.Common.{Some, None}
use Rattle.sparql_lexer.specs.Characters.{is_label_start, is_variable_part}
use Rattle.sparql_lexer.specs.Pattern.{character, many, ◌▸◌}
use Rattle.sparql_lexer.specs.Names.{is_variable_sign}
use Rattle.sparql_lexer.proofs.PatternLaws.{sure_character, then_none, then_sure}
use Rattle.sparql_lexer.proofs.names.skip_variable.Goals as goal

pub returns-in_err-after : goal.returns-in_err-after
returns-in_err-after c = rw c.from_residual-in_err-after.ensures (then_sure (character is_label_start ▸ (many (character is_variable_part))) None (sure_character is_variable_sign) c.in_ok-name.ensures.matches (then_none (character is_label_start) (many (character is_variable_part)) c.in_ok-name.name.now c.in_err-after.ensures))

pub returns : goal.returns
returns c = then_sure (character is_label_start ▸ (many (character is_variable_part))) (Some c.skip.result) (sure_character is_variable_sign) c.in_ok-name.ensures.matches (then_sure (many (character is_variable_part)) (Some c.skip.result) (sure_character is_label_start) c.in_ok-after.ensures.matches c.skip.ensures)
