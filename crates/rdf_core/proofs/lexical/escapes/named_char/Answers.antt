use Rattle.std.specs.Str.{chars}
use Rattle.rdf_core.proofs.EscapeSteps.{hex_rest, scalar_is}
use Rattle.rdf_core.proofs.lexical.escapes.named_char.Goals as goal

pub returns : goal.returns
returns c =
    let read = c.in_ok-value.ensures.value in
    let named = c.in_ok-c.ensures.value in (
      scalar_is c.args.count c.in_ok-value.value c.in_ok-c.c (chars c.in_ok-value.rest.now) _ read named.0 named.1,
      hex_rest c.args.count 0 (chars c.args.text.now) c.in_ok-value.value (chars c.in_ok-value.rest.now) read,
      c.in_ok-value.ensures.text,
    )
