-- BIND to a variable that is already in scope (SPARQL 1.1 Query Language, sections 10.1 and
-- 18.2.1).
use Rattle.std.specs.Prelude.{ℕ, List, Bool, false, ◌||◌}
use Rattle.std.specs.List.{list_any}
use Rattle.std.specs.Str.{bytes_eq}
use Rattle.sparql_tree.specs.GroupTree.{GroupTree, ElementTree, none, then, triples, group, union, optional, minus, graph, filter, bind, values}
use Rattle.sparql_tree.specs.Scope.{Name, group_scope}

-- the element is a BIND to one of these variables
abbrev pub binds_among : List Name → ElementTree → Bool
binds_among xs (bind e x) = list_any (bytes_eq x) xs
binds_among xs _ = false

-- The variable of a BIND in the group, at any depth, is in scope from the elements before it in its
-- own group. The elements around that group do not matter.
abbrev mutual
  pub breaks_bind_scope : GroupTree → Bool
  breaks_bind_scope none = false
  breaks_bind_scope (then g e) = breaks_bind_scope g || (binds_among (group_scope g) e || breaks_inside e)

  pub breaks_inside : ElementTree → Bool
  breaks_inside (group g) = breaks_bind_scope g
  breaks_inside (union e g) = breaks_inside e || breaks_bind_scope g
  breaks_inside (optional g) = breaks_bind_scope g
  breaks_inside (minus g) = breaks_bind_scope g
  breaks_inside (graph i g) = breaks_bind_scope g
  breaks_inside (triples ts) = false
  breaks_inside (filter e) = false
  breaks_inside (bind e x) = false
  breaks_inside (values xs rows) = false
