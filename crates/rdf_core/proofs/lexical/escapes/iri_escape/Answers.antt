use Rattle.std.proofs.Common.{◌∙◌, sym}
use Rattle.rdf_core.proofs.EscapeSteps.{iri_nil, iri_no, iri_yes}
use Rattle.rdf_core.proofs.lexical.escapes.iri_escape.Goals as goal

pub returns-in_err-c : goal.returns-in_err-c
returns-in_err-c c = rw c.from_residual.ensures (iri_nil _ c.in_err-c.ensures)

pub returns-then-is_iri_char : goal.returns-then-is_iri_char
returns-then-is_iri_char c = iri_yes c.args.text.now c.in_ok-c.c c.in_ok-c.rest.now c.in_ok-c.ensures (sym c.is_iri_char.ensures.value ∙ c.if-is_iri_char.true)

pub returns-else-is_iri_char : goal.returns-else-is_iri_char
returns-else-is_iri_char c = iri_no c.args.text.now c.in_ok-c.c c.in_ok-c.rest.now c.in_ok-c.ensures (sym c.is_iri_char.ensures.value ∙ c.if-is_iri_char.false)
