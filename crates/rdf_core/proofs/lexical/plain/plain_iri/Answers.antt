use Rattle.std.proofs.Common.{arith}
use Rattle.rdf_core.specs.declared.lexical.escapes.Inside.TheVariants.{Iri}
use Rattle.rdf_core.proofs.PlainSteps.{plain_found, before_sign, after_sign}
use Rattle.rdf_core.proofs.lexical.plain.plain_iri.Goals as goal

pub range-requires-clause-end_boundary : goal.range-requires-clause-end_boundary
range-requires-clause-end_boundary c =
    before_sign Iri 62 c.args.text.now c.as_bytes.result.now c.in_ok-end.end c.as_bytes.ensures.value c.utf8.text (omega arith) c.in_ok-end.ensures

pub range_from-requires : goal.range_from-requires
range_from-requires c =
    λ _. after_sign Iri 62 c.args.text.now c.as_bytes.result.now c.in_ok-end.end c.as_bytes.ensures.value c.utf8.text (omega arith) c.in_ok-end.ensures

pub returns : goal.returns
returns c =
    rw (c.range.ensures.value, c.range_from.ensures.value)
    (plain_found Iri 62 c.args.text.now c.as_bytes.result.now c.in_ok-end.end c.as_bytes.ensures.value c.utf8.text (omega arith) c.in_ok-end.ensures)
