use Rattle.std.proofs.Common.{◌≤◌, ℕ, Bool, List, true, take}
use Rattle.sparql_tree.specs.declared.group.Element.{size-Element}
use Rattle.sparql_tree.specs.GroupTree.{element_of, group_of}
use Rattle.sparql_tree.specs.BlankReuse.{closed_patterns, open_pattern, patterns_inside}
use Rattle.sparql_read.specs.LabelSteps.{AddsPatterns, IsOpenRun}
use Rattle.sparql_read.proofs.labels.+labels.Given as goal

abbrev pub invariant-add_group-loop-element : goal.invariant-add_group-loop-element
invariant-add_group-loop-element l =
    AddsPatterns (closed_patterns (group_of (take l.element-index l.elements))) true l.initial.earlier l.earlier
    × IsOpenRun l.earlier l.labels (open_pattern (group_of (take l.element-index l.elements)))

-- if the patterns of the rest are added, those of the whole left side are added
abbrev pub invariant-add_left-groups : goal.invariant-add_left-groups
invariant-add_left-groups l = record {
  no_deeper : size-Element l.rest ≤ size-Element l.left;
  adds : (b : Bool) (zs : List (List ℕ)) → AddsPatterns (patterns_inside (element_of l.rest)) b l.earlier zs
      → AddsPatterns (patterns_inside (element_of l.left)) b l.initial.earlier zs;
}

abbrev pub decreases-add_left-groups : goal.decreases-add_left-groups
decreases-add_left-groups l = size-Element l.rest
