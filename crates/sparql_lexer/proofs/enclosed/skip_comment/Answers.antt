use Rattle.std.proofs.Common.{refl}
use Rattle.sparql_lexer.specs.Characters.{is_line_end}
use Rattle.sparql_lexer.specs.Classes.{members}
use Rattle.sparql_lexer.specs.declared.classes.Class.TheVariants as class
use Rattle.sparql_lexer.specs.Pattern.{character, many, ◌▸◌}
use Rattle.sparql_lexer.proofs.PatternLaws.{sure_character, then_sure, greedy_then}
use Rattle.sparql_lexer.proofs.ProductionLaws.{sure_is, line_ends}
use Rattle.sparql_lexer.proofs.enclosed.skip_comment.Goals as goal

pub returns : goal.returns
returns c = then_sure (many (character (members class.InComment)) ▸ character is_line_end) c.accept_one.result (sure_is 35) c.in_ok-inside.ensures.matches (greedy_then (character (members class.InComment)) (many (character (members class.InComment))) (character is_line_end) c.accept_one.result (sure_character (members class.InComment)) refl (λ ms d. d) line_ends c.skip-end.ensures c.accept_one.ensures)
