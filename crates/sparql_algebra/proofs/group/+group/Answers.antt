use Rattle.std.proofs.Common.{◌+◌, drop, map, sym, ap, ◌∙◌}
use Rattle.sparql_tree.specs.GroupTree.{element_of, group_of, none}
use Rattle.sparql_algebra.specs.PartOf.{part_of}
use Rattle.sparql_algebra.specs.Translation.{add_element, group_part}
use Rattle.sparql_algebra.proofs.PartSteps.{part_from, part_onto, part_step}
use Rattle.sparql_algebra.proofs.group.+group.Goals as goal

pub read_group-loop-element-init : goal.read_group-loop-element-init
read_group-loop-element-init t c =
    ap (λ p. part_from c.args.names.now p (map element_of c.args.group.now)) c.in_ok-part.ensures.part
    ∙ sym (part_onto c.args.names.now none (map element_of c.args.group.now))

pub read_group-loop-element-preserved : goal.read_group-loop-element-preserved
read_group-loop-element-preserved t c =
    let names = c.args.names.now in
    let p = part_of c.loop-element.part in
    let made = c.in_ok-part-2.ensures.part ∙ c.in_ok-addition.ensures.addition p ∙ ap (λ x. add_element names p (element_of x)) c.element-item.is in
    ap (λ q. part_from names q (map element_of (drop (c.loop-element.element-index + 1) c.args.group.now))) made
    ∙ part_step element_of names c.args.group.now c.loop-element.element-index c.element-item.result p
    (group_part names (group_of c.args.group.now)) c.loop-element-test.true c.loop-element.invariant
