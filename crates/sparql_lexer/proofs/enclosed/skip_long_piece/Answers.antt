use Rattle.std.proofs.Common.{refl}
use Rattle.sparql_lexer.specs.Classes.{members}
use Rattle.sparql_lexer.specs.Pattern.{character, ◌or◌}
use Rattle.sparql_lexer.specs.Enclosed.{escape}
use Rattle.sparql_lexer.proofs.PatternLaws.{perhaps_left_out, apart_is}
use Rattle.sparql_lexer.proofs.ProductionLaws.{piece_first, quotes, no_quotes, one_quote, two_quotes}
use Rattle.sparql_lexer.proofs.enclosed.skip_long_piece.Goals as goal

pub returns-in_default : goal.returns-in_default
returns-in_default c = perhaps_left_out (quotes c.args.quote) (character (members c.args.class) or escape) c.args.text.now c.skip_string_piece.result (no_quotes c.args.quote c.args.text.now c.in_default.ensures) c.skip_string_piece.ensures

pub returns-in_default-accept : goal.returns-in_default-accept
returns-in_default-accept c = one_quote c.args.quote (character (members c.args.class) or escape) c.args.text.now c.in-Some.one.now c.skip_string_piece-in_default-accept.result (apart_is (character (members c.args.class) or escape) c.args.quote refl (piece_first (members c.args.class) c.args.quote c.requires.quoted c.requires.backslash)) c.in-Some.ensures.matches c.in_default-accept.ensures c.skip_string_piece-in_default-accept.ensures

pub returns : goal.returns
returns c = two_quotes c.args.quote (character (members c.args.class) or escape) c.args.text.now c.in-Some.one.now c.in-Some-accept.two.now c.skip_string_piece-2.result (apart_is (character (members c.args.class) or escape) c.args.quote refl (piece_first (members c.args.class) c.args.quote c.requires.quoted c.requires.backslash)) c.in-Some.ensures.matches c.in-Some-accept.ensures.matches c.skip_string_piece-2.ensures
