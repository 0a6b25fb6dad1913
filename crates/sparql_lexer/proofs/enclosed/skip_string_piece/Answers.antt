use Rattle.sparql_lexer.specs.Characters.{is_escape_letter}
use Rattle.sparql_lexer.specs.Classes.{members}
use Rattle.sparql_lexer.specs.Pattern.{character, ◌or◌}
use Rattle.sparql_lexer.specs.Enclosed.{numbered, escape}
use Rattle.sparql_lexer.proofs.PatternLaws.{then_sure, only_right, left_at, nowhere}
use Rattle.sparql_lexer.proofs.ProductionLaws.{sure_is, plain_or_escape}
use Rattle.sparql_lexer.proofs.enclosed.skip_string_piece.Goals as goal

pub returns-in-Some : goal.returns-in-Some
returns-in-Some c = left_at (character (members c.args.class)) escape c.args.text.now c.in-Some.after.now (nowhere (plain_or_escape (members c.args.class) (character is_escape_letter or numbered) c.requires) c.in-Some.ensures.matches) c.in-Some.ensures

pub returns : goal.returns
returns c = only_right (character (members c.args.class)) escape c.args.text.now c.skip_escaped.result c.in_default.ensures (then_sure (character is_escape_letter or numbered) c.skip_escaped.result (sure_is 92) c.in_ok-after.ensures.matches c.skip_escaped.ensures)
