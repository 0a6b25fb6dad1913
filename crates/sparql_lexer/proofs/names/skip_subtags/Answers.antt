use Rattle.std.proofs.Common.{refl, None, arith}
use Rattle.sparql_lexer.specs.Characters.{is_letter_or_digit}
use Rattle.sparql_lexer.specs.Names.{subtag}
use Rattle.sparql_lexer.specs.Pattern.{character, is, some}
use Rattle.sparql_lexer.proofs.PatternLaws.{then_none, then_sure, run_ends, shorter, strictly}
use Rattle.sparql_lexer.proofs.ProductionLaws.{sure_is, subtag_more}
use Rattle.sparql_lexer.proofs.names.skip_subtags.Goals as goal

pub returns-in_default : goal.returns-in_default
returns-in_default c = c.subtags.invariant c.subtags.rest (run_ends subtag c.subtags.rest.now (then_none (is 45) (some (character is_letter_or_digit)) c.subtags.rest.now c.in_default.ensures))

pub returns-in_default-skip_some : goal.returns-in_default-skip_some
returns-in_default-skip_some c = c.subtags.invariant c.subtags.rest (run_ends subtag c.subtags.rest.now (then_sure (some (character is_letter_or_digit)) None (sure_is 45) c.in-Some.ensures.matches c.in_default-skip_some.ensures))

pub subtags-preserved : goal.subtags-preserved
subtags-preserved c = λ end h. c.subtags.invariant end (subtag_more end c.in-Some.ensures.matches c.in-Some-skip_some.ensures h)

pub subtags-smaller : goal.subtags-smaller
subtags-smaller c = let h = strictly refl c.in-Some.ensures.matches in let k = shorter c.in-Some-skip_some.ensures.matches in omega (arith, h, k)
