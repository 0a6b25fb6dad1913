-- A text that no rule rejects, or some rule (a choice of this project, not fixed by the standard; the
-- rules are those of sparql_read).
use Rattle.std.specs.Prelude.{ℕ, List}
use Rattle.sparql_tree.specs.QueryTree.{QueryTree}
use Rattle.sparql_read.specs.Rejection.{IsRejectedBy, IsValidQuery}
use Rattle.sparql_read.specs.declared.fault.QueryFault.{QueryFault}

-- the text derives a query, and no rule rejects it
pub record IsAcceptedText (text : List ℕ) : Type 0 where
  pub query : QueryTree
  pub read : IsValidQuery text query

-- some rule rejects the text
pub record IsRejectedText (text : List ℕ) : Type 0 where
  pub fault : QueryFault
  pub rejected : IsRejectedBy text fault
