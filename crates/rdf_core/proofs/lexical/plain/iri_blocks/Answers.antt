use Rattle.std.proofs.Common.{◌+◌, sym, ◌∙◌, arith}
use Rattle.rdf_core.specs.Characters.{is_iri_char}
use Rattle.rdf_core.proofs.PlainSteps.{block_more}
use Rattle.rdf_core.proofs.lexical.plain.iri_blocks.Goals as goal

pub loop-at-preserved : goal.loop-at-preserved
loop-at-preserved c = (
  omega (arith, c.loop-at-test.true),
  block_more is_iri_char c.args.bytes.now c.loop-at.at (c.loop-at.at + 16) (omega arith) c.loop-at.invariant.1 (sym c.are_iri_bytes.ensures ∙ c.if-are_iri_bytes.true),
)
