-- The query that runs on the parts of a dataset (choices of this project).
use Rattle.std.specs.Prelude.{◌≡◌, ℕ, Bool, true, Option, None, unwrap_or}
use Rattle.std.specs.Option.{option_map}
use Rattle.sparql_tree.specs.QueryTree.{QueryTree}
use Rattle.sparql_algebra.specs.Names.{names_of}
use Rattle.sparql_algebra.specs.Translation.{translate_group}
use Rattle.query_split.specs.declared.split.Split.{Split}
use Rattle.query_split.specs.Condition.{Key, is_apart}

-- the query with another LIMIT, and with OFFSET 0 in the place of its OFFSET
abbrev pub for_parts : Option ℕ → QueryTree → QueryTree
for_parts limit q = record {
  distinct = q.distinct;
  selection = q.selection;
  group = q.group;
  limit = limit;
  offset = option_map (λ _. 0) q.offset;
  mentioned = q.mentioned;
}

-- the solutions of the query's group come from one part each
abbrev pub is_splittable : Split → Key → QueryTree → Bool
is_splittable split key q = is_apart split key (translate_group (names_of q) q.group)
