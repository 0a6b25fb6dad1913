use Rattle.std.proofs.Common.{◌++◌, [], None, ap, arith, get_or, if◌then◌else◌, refl, ◌∙◌}
use Rattle.cluster_parts.specs.Numbered.{line_by_numbers}
use Rattle.cluster_parts.specs.Keys.{is_chosen}
use Rattle.cluster_parts.proofs.PartSteps.{numbers_below, one_more_line}
use Rattle.cluster_parts.proofs.keyed.part_of.Goals as goal

pub loop-i-preserved : goal.loop-i-preserved
loop-i-preserved c = λ quads key h are.
    let block = c.args.block.now in
    let i = c.loop-i.i in
    let chosen = is_chosen c.args.partitions c.args.number in
    one_more_line chosen quads key block.texts.texts block.quads.items c.args.keys.now i c.index.result.now c.loop-i.text.items c.push_if_chosen.new.out.items
    (omega (arith, c.loop-i-test.true)) h are (numbers_below quads block.texts.texts block.quads.items _ h refl i c.index.result.now (omega (arith, c.loop-i-test.true)))
    (c.loop-i.invariant quads key h are)
    (c.in_ok-push_if_chosen.ensures.appended
    ∙ ap (λ q. c.loop-i.text.items ++ (if chosen (get_or c.args.keys.now i None) then line_by_numbers block.texts.texts q else [])) c.index.ensures)
