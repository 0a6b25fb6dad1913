use Rattle.std.proofs.Common.{arith}
use Rattle.rdf_core.specs.declared.lexical.escapes.Inside.TheVariants.{Quoted}
use Rattle.std.specs.Str.{chars}
use Rattle.rdf_core.proofs.EnclosedLaws.{quoted_apart, enclosed_result}
use Rattle.rdf_core.proofs.PlainSteps.{plain_enclosed}
use Rattle.rdf_core.proofs.lexical.enclosed.read_quoted.Goals as goal

pub returns-in_ok-copy-in-Some-clause-found : goal.returns-in_ok-copy-in-Some-clause-found
returns-in_ok-copy-in-Some-clause-found c =
    rw (c.from_string.ensures.value, c.in_ok-copy-in-Some.ensures.ok) (plain_enclosed Quoted 34 c.args.text.now _ _ (omega arith) c.in-Some.ensures)

pub returns-in-None-clause-found : goal.returns-in-None-clause-found
returns-in-None-clause-found c =
    enclosed_result (λ r. chars r.now) Quoted 34 (chars c.args.text.now) quoted_apart c.read_parts.result c.read_parts.ensures.value
