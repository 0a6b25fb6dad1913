use Rattle.std.proofs.Common.{refl, Some, None}
use Rattle.sparql_lexer.specs.Characters.{is_letter}
use Rattle.sparql_lexer.specs.Names.{subtag}
use Rattle.sparql_lexer.specs.Pattern.{character, many, some, ◌▸◌}
use Rattle.sparql_lexer.proofs.PatternLaws.{then_none, then_sure}
use Rattle.sparql_lexer.proofs.ProductionLaws.{sure_is, then_subtags}
use Rattle.sparql_lexer.proofs.names.skip_language_tag.Goals as goal

pub returns-in_err-first : goal.returns-in_err-first
returns-in_err-first c = rw c.from_residual-in_err-first.ensures (then_sure (some (character is_letter) ▸ many subtag) None (sure_is 64) c.in_ok-tag.ensures.matches (then_none (some (character is_letter)) (many subtag) c.in_ok-tag.tag.now c.in_err-first.ensures))

pub returns : goal.returns
returns c = then_sure (some (character is_letter) ▸ many subtag) (Some c.skip_subtags.result) (sure_is 64) c.in_ok-tag.ensures.matches (then_subtags is_letter c.skip_subtags.result refl c.in_ok-first.ensures c.skip_subtags.ensures)
