use Rattle.std.proofs.Common.{refl}
use Rattle.sparql_lexer.specs.Characters.{is_iri_character}
use Rattle.sparql_lexer.specs.Pattern.{character}
use Rattle.sparql_lexer.specs.Enclosed.{numbered, number_escape}
use Rattle.sparql_lexer.proofs.PatternLaws.{then_sure, only_right, left_at, nowhere}
use Rattle.sparql_lexer.proofs.ProductionLaws.{sure_is, plain_or_escape}
use Rattle.sparql_lexer.proofs.enclosed.skip_iri_piece.Goals as goal

pub returns-in-Some : goal.returns-in-Some
returns-in-Some c = left_at (character is_iri_character) number_escape c.args.text.now c.in-Some.after.now (nowhere (plain_or_escape is_iri_character numbered refl) c.in-Some.ensures.matches) c.in-Some.ensures

pub returns : goal.returns
returns c = only_right (character is_iri_character) number_escape c.args.text.now c.skip_numbered.result c.in_default.ensures (then_sure numbered c.skip_numbered.result (sure_is 92) c.in_ok-after.ensures.matches c.skip_numbered.ensures)
