use Rattle.std.specs.Str.{chars}
use Rattle.nquads_core.proofs.TokenSteps.{string_read, string_missing, match_some, match_none}
use Rattle.nquads_core.proofs.token.read_string.Goals as goal

pub returns-in-Some : goal.returns-in-Some
returns-in-Some c = record { value = string_read (chars c.args.text.now) _ _ (match_some _ _ c.in_ok-string.field-0 _ c.in-Some.is c.in_ok-string.ensures.found) }

pub returns-in-None : goal.returns-in-None
returns-in-None c = record { value = string_missing (chars c.args.text.now) (match_none _ _ c.in_ok-string.field-0 c.in-None.is c.in_ok-string.ensures.found) }
