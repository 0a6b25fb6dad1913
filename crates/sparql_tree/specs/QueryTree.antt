-- The tree of a query, without its representation in memory (SPARQL 1.1 Query Language, section
-- 19.8, [7] `SelectQuery`).
use Rattle.std.specs.Prelude.{ℕ, List, Bool, Option, Some, None}
use Rattle.sparql_tree.specs.declared.query.Query.{Query}
use Rattle.sparql_tree.specs.declared.query.Selection.{Selection}
use Rattle.sparql_tree.specs.declared.query.Selection.TheVariants.{All, Variables}
use Rattle.sparql_tree.specs.GroupTree.{GroupTree, group_of}

-- the parts of [7] SelectQuery, and the variables of its text
pub record QueryTree : Type 0 where
  pub distinct : Bool
  -- the names of the projected variables; None is `*`
  pub selection : Option (List (List ℕ))
  pub group : GroupTree
  pub limit : Option ℕ
  pub offset : Option ℕ
  -- the name of each variable occurrence, in the order of the text
  pub mentioned : List (List ℕ)

-- the names of the projected variables, or None for `*`
abbrev pub selection_of : Selection → Option (List (List ℕ))
selection_of All = None
selection_of (Variables xs) = Some xs.items

-- the tree of a query in the code
abbrev pub query_of : Query → QueryTree
query_of q = record {
  distinct = q.distinct;
  selection = selection_of q.selection;
  group = group_of q.group.items;
  limit = q.limit;
  offset = q.offset;
  mentioned = q.mentioned.items;
}
