-- What the plan of a query over parts says.
use Rattle.std.specs.Prelude.{◌≡◌, ℕ, List, true, unwrap_or}
use Rattle.std.specs.Str.{chars}
use Rattle.algebra_model.specs.Algebra.{Algebra, Project, Distinct}
use Rattle.sparql_tree.specs.QueryTree.{QueryTree}
use Rattle.sparql_read.specs.Rejection.{IsValidQuery}
use Rattle.row_merge.specs.Merged.{IsEnough}
use Rattle.query_split.specs.declared.split.Split.{Split}
use Rattle.query_split.specs.Condition.{Key}
use Rattle.query_split.specs.ForParts.{for_parts, is_splittable}
use Rattle.query_plan.specs.declared.planning.PartsPlan.{PartsPlan}

-- the expression below a Project at the root
abbrev pub below_project : Algebra → Algebra
below_project (Project vs A) = A
below_project A = A

-- the expression of the group, below Distinct and Project
abbrev pub below_projection : Algebra → Algebra
below_projection (Distinct A) = below_project A
below_projection A = below_project A

-- The query may be evaluated on the parts of such a split. Its DISTINCT, OFFSET and LIMIT are those of the last merge, the
-- parts have enough rows for it, and the text is that of the query for the parts.
pub record IsPlanOf (split : Split) (q : QueryTree) (plan : PartsPlan) : Type 0 where
  pub key : Key
  pub splittable : is_splittable split key q ≡ true
  pub once : plan.merge.distinct ≡ q.distinct
  pub skipped : plan.merge.offset ≡ unwrap_or q.offset 0
  pub limited : plan.merge.limit ≡ q.limit
  pub enough : IsEnough plan.merge.kept plan.merge.offset plan.merge.limit
  pub parts : IsValidQuery (chars plan.query.items) (for_parts plan.merge.kept q)

-- no rule rejects the text, and the plan is that of its query
pub record IsPlan (split : Split) (text : List ℕ) (plan : PartsPlan) : Type 0 where
  pub query : QueryTree
  pub read : IsValidQuery (chars text) query
  pub planned : IsPlanOf split query plan
