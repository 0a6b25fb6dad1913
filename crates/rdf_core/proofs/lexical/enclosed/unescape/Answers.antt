use Rattle.std.specs.Str.{chars}
use Rattle.rdf_core.proofs.EnclosedSteps.{found_some, found_none}
use Rattle.rdf_core.proofs.EnclosedLaws.{written_found, written_none}
use Rattle.rdf_core.proofs.lexical.enclosed.unescape.Goals as goal

pub returns-in-Some : goal.returns-in-Some
returns-in-Some c =
    record { written = written_found c.args.kind (chars c.args.inside.now) _ _ (found_some (λ x. (x.0, chars x.1.now)) c.in_ok-text.field-0 _ _ c.in-Some.is c.in_ok-text.ensures.value) }

pub returns-in-None : goal.returns-in-None
returns-in-None c =
    record { written = written_none c.args.kind (chars c.args.inside.now) (found_none (λ x. (x.0, chars x.1.now)) c.in_ok-text.field-0 _ c.in-None.is c.in_ok-text.ensures.value) }
