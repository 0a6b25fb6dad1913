-- The results of the functions that collect variables in scope. Only private clauses use these
-- definitions.
use Rattle.std.specs.Prelude.{◌≡◌, ◌++◌, List, Bool, true, false, Option, Some, None}
use Rattle.sparql_tree.specs.GroupTree.{GroupTree, ElementTree}
use Rattle.sparql_tree.specs.Scope.{Name, element_names, group_scope}
use Rattle.sparql_read.specs.NameSet.{HaveSame}
use Rattle.sparql_read.specs.BindScope.{breaks_bind_scope, breaks_inside}

-- the variables in scope, or None if a BIND breaks the rule
abbrev pub IsScopeOf : GroupTree → Option (List Name) → Type 0
IsScopeOf g None = breaks_bind_scope g ≡ true
IsScopeOf g (Some xs) = (breaks_bind_scope g ≡ false) × HaveSame xs (group_scope g)

-- The names before and after those of the element are added. The result is true if nothing inside
-- the element breaks the rule.
abbrev pub AddsScope : ElementTree → Bool → List Name → List Name → Type 0
AddsScope e true xs ys = (breaks_inside e ≡ false) × HaveSame ys (xs ++ element_names false e)
AddsScope e false xs ys = breaks_inside e ≡ true
