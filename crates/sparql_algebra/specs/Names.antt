-- The variables of a query and their numbers (SPARQL 1.1 Query Language, section 18.2.1, variable
-- scope). A name is a list of bytes, without `?` or `$`.
use Rattle.std.specs.Prelude.{◌≡◌, ℕ, Bool, true, List, [], ◌++◌, take, Option, Some, None}
use Rattle.std.specs.Prelude as list
use Rattle.std.specs.List.{list_any, position_or_len}
use Rattle.std.specs.Str.{bytes_eq}
use Rattle.indexmap.specs.IndexSet.{insert_all}
use Rattle.sparql_tree.specs.QueryTree.{QueryTree}
pub use Rattle.sparql_tree.specs.Scope.{Name}
use Rattle.sparql_tree.specs.Scope.{group_names, group_scope}
use Rattle.algebra_model.specs.Bag.{without_repeats}

abbrev pub is_name_among : Name → List Name → Bool
is_name_among x xs = list_any (bytes_eq x) xs

-- the number of a variable is the place of its name; a variable without a place is never bound
abbrev pub number_of : List Name → Name → ℕ
number_of names x = position_or_len (bytes_eq x) names

-- some of the first names of a list are added after the old ones, and no other name
abbrev pub IsNotedInPart : List Name → List Name → List Name → Type 0
IsNotedInPart old xs new = (k : ℕ) × (new ≡ insert_all bytes_eq old (take k xs))

abbrev pub listed_names : Option (List Name) → List Name
listed_names None = []
listed_names (Some xs) = xs

-- Variables are numbered in the order of their first occurrence in the text. A tree that no parser
-- made may bind or list names that its text does not mention; these follow.
abbrev pub names_of : QueryTree → List Name
names_of q = without_repeats bytes_eq (q.mentioned ++ (listed_names q.selection ++ group_names true q.group))

abbrev pub selected_by : Option (List Name) → List Name → List Name → List Name
selected_by None scope names = list.filter (λ x. is_name_among x scope) names
selected_by (Some xs) scope names = without_repeats bytes_eq xs

-- `*` ([9] `SelectClause`) lists the variables in scope in the order of their numbers; if a
-- variable is listed twice, its first place is used
abbrev pub selected_names : QueryTree → List Name
selected_names q = selected_by q.selection (group_scope q.group) (names_of q)
