-- Why there is no plan for a query (choices of this project). The first reason that holds is the one.
use Rattle.std.specs.Prelude.{◌≡◌, ◌+◌, ◌≤◌, ◌^◌, ⊤, ℕ, List, true, false, Option, Some, None, is_none, unwrap_or}
use Rattle.std.specs.Str.{chars}
use Rattle.sparql_tree.specs.QueryTree.{QueryTree}
use Rattle.sparql_read.specs.Rejection.{IsRejectedBy, IsValidQuery}
use Rattle.sparql_read.specs.declared.fault.QueryFault.{QueryFault}
use Rattle.query_split.specs.declared.split.Split.{Split}
use Rattle.query_split.specs.Condition.{Key}
use Rattle.query_split.specs.ForParts.{is_splittable}
use Rattle.query_plan.specs.declared.planning.PlanFault.{PlanFault}
use Rattle.query_plan.specs.declared.planning.PlanFault.TheVariants.{Query, Condition, Sum, Offset, Memory}

-- the query meets the condition of the split, with some key
abbrev pub IsSplittable : Split → QueryTree → Type 0
IsSplittable split q = (key : Key) × (is_splittable split key q ≡ true)

-- the sum of OFFSET and LIMIT is above the largest number, so no LIMIT for the parts is enough
abbrev pub IsAboveLargest : ℕ → Option ℕ → Type 0
IsAboveLargest offset None = ⊥
IsAboveLargest offset (Some limit) = 2 ^ 64 ≤ offset + limit

-- Why a query that no rule rejects has no plan. Of a query with OFFSET it is not proved that a text for the parts is found.
abbrev pub IsRefusalOf : Split → QueryTree → PlanFault → Type 0
IsRefusalOf split q Query = ⊥
IsRefusalOf split q Condition = (key : Key) → is_splittable split key q ≡ false
IsRefusalOf split q Sum = IsSplittable split q × IsAboveLargest (unwrap_or q.offset 0) q.limit
IsRefusalOf split q Offset =
    IsSplittable split q × (IsAboveLargest (unwrap_or q.offset 0) q.limit → ⊥) × (is_none q.offset ≡ false)
IsRefusalOf split q Memory = ⊤

-- no rule rejects the text, and its query has no plan
pub record IsRefusedQuery (split : Split) (text : List ℕ) (fault : PlanFault) : Type 0 where
  pub query : QueryTree
  pub read : IsValidQuery (chars text) query
  pub reason : IsRefusalOf split query fault

-- Why a text has no plan. Memory says nothing about it.
abbrev pub IsRefusal : Split → List ℕ → PlanFault → Type 0
IsRefusal split text Query = (r : QueryFault) × IsRejectedBy (chars text) r
IsRefusal split text Condition = IsRefusedQuery split text Condition
IsRefusal split text Sum = IsRefusedQuery split text Sum
IsRefusal split text Offset = IsRefusedQuery split text Offset
IsRefusal split text Memory = ⊤

-- why there is no text for the parts
abbrev pub IsTextFault : QueryTree → PlanFault → Type 0
IsTextFault q Query = ⊥
IsTextFault q Condition = ⊥
IsTextFault q Sum = ⊥
IsTextFault q Offset = is_none q.offset ≡ false
IsTextFault q Memory = ⊤
