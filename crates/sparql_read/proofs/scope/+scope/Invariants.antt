use Rattle.std.proofs.Common.{◌≤◌, Bool, List, Some, take}
use Rattle.sparql_tree.specs.declared.group.Element.{size-Element}
use Rattle.sparql_tree.specs.GroupTree.{element_of, group_of}
use Rattle.sparql_tree.specs.Scope.{Name}
use Rattle.sparql_read.specs.ScopeSteps.{AddsScope, IsScopeOf}
use Rattle.sparql_read.proofs.scope.+scope.Given as goal

abbrev pub invariant-scope_of-loop-element : goal.invariant-scope_of-loop-element
invariant-scope_of-loop-element l = IsScopeOf (group_of (take l.element-index l.elements)) (Some l.scope)

-- if the names of the rest are added, those of the whole left side are added
abbrev pub invariant-add_left-groups : goal.invariant-add_left-groups
invariant-add_left-groups l = record {
  no_deeper : size-Element l.rest ≤ size-Element l.left;
  adds : (b : Bool) (zs : List Name) → AddsScope (element_of l.rest) b l.scope zs → AddsScope (element_of l.left) b l.initial.scope zs;
}

abbrev pub decreases-add_left-groups : goal.decreases-add_left-groups
decreases-add_left-groups l = size-Element l.rest
