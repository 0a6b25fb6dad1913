use Rattle.std.proofs.Common.{◌++◌, ◌<◌, ap, arith, length, refl, ◌∙◌}
use Rattle.cluster_parts.specs.Numbered.{line_by_numbers}
use Rattle.cluster_parts.proofs.PartSteps.{all_of_quads, next_quad, numbers_below}
use Rattle.cluster_parts.proofs.filtered.document_of.Goals as goal

pub loop-i-preserved : goal.loop-i-preserved
loop-i-preserved c = λ quads h.
    let block = c.args.block.now in
    let i = c.loop-i.i in
    let low : i < length block.quads.items = omega (arith, c.loop-i-test.true) in
    next_quad quads block.texts.texts block.quads.items i c.index.result.now c.loop-i.text.items c.push_quad.new.out.items
    low h (numbers_below quads block.texts.texts block.quads.items _ h refl i c.index.result.now low)
    (c.loop-i.invariant quads h)
    (c.in_ok-push_quad.ensures.appended ∙ ap (λ q. c.loop-i.text.items ++ line_by_numbers block.texts.texts q) c.index.ensures)

pub returns : goal.returns
returns c = record {
  document = λ quads h. c.loop-i.invariant quads h ∙ all_of_quads quads c.args.block.now.texts.texts c.args.block.now.quads.items c.loop-i.i (omega (arith, c.loop-i-test.false)) h;
}
