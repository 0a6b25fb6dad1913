use Rattle.std.proofs.Common.{None}
use Rattle.sparql_lexer.specs.Characters.{is_base, is_name_part}
use Rattle.sparql_lexer.specs.Pattern.{character, is, ◌▸◌}
use Rattle.sparql_lexer.specs.Names.{tail}
use Rattle.sparql_lexer.proofs.PatternLaws.{sure_character, then_none, then_sure}
use Rattle.sparql_lexer.proofs.ProductionLaws.{tail_then_colon, colon_namespace, no_namespace}
use Rattle.sparql_lexer.proofs.names.skip_namespace.Goals as goal

pub returns-in-Some : goal.returns-in-Some
returns-in-Some c = colon_namespace c.args.text.now c.in-Some.after.now c.in-Some.ensures

pub returns-in_err-start : goal.returns-in_err-start
returns-in_err-start c = rw c.from_residual.ensures (no_namespace c.args.text.now None c.in_default.ensures (then_none (character is_base) (tail (character is_name_part) ▸ is 58) c.args.text.now c.in_err-start.ensures))

pub returns : goal.returns
returns c = no_namespace c.args.text.now c.accept-2.result c.in_default.ensures (then_sure (tail (character is_name_part) ▸ is 58) c.accept-2.result (sure_character is_base) c.in_ok-start.ensures.matches (tail_then_colon c.accept-2.result c.skip_tail-end.ensures c.accept-2.ensures))
