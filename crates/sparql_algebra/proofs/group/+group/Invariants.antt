use Rattle.std.proofs.Common.{◌≡◌, drop, map}
use Rattle.sparql_tree.specs.GroupTree.{element_of, group_of}
use Rattle.sparql_algebra.specs.PartOf.{part_of}
use Rattle.sparql_algebra.specs.Translation.{group_part}
use Rattle.sparql_algebra.proofs.PartSteps.{part_from}
use Rattle.sparql_algebra.proofs.group.+group.Given as goal

abbrev pub invariant-read_group-loop-element : goal.invariant-read_group-loop-element
invariant-read_group-loop-element l =
    part_from l.names (part_of l.part) (map element_of (drop l.element-index l.group)) ≡ group_part l.names (group_of l.group)
