-- What a fault says of document and query. `Memory` says nothing, and `WorkerRefused` says nothing of
-- the document.
use Rattle.std.specs.Prelude.{ℕ, List, ⊤, Err}
use Rattle.std.specs.Str.{chars}
use Rattle.sparql_tree.specs.QueryTree.{QueryTree}
use Rattle.sparql_read.specs.Rejection.{IsValidQuery, IsRejectedBy}
use Rattle.spq_core.specs.Outcome.{IsQueryResult, bad_line, query}
use Rattle.spq_core.specs.declared.fault.Fault.{Fault}
use Rattle.spq_core.specs.declared.fault.Fault.TheVariants.{Query, BadLine, WorkerRefused, Memory}

-- Document and text have this fault as their result. The text is checked before any worker starts, so if
-- a worker could not be started, the text is a query.
abbrev pub IsFaultOf : List ℕ → List ℕ → Fault → Type 0
IsFaultOf doc text (Query f) = IsQueryResult doc text (Err (query f))
IsFaultOf doc text (BadLine n) = IsQueryResult doc text (Err (bad_line n))
IsFaultOf doc text WorkerRefused = (q : QueryTree) × IsValidQuery (chars text) q
IsFaultOf doc text Memory = ⊤

-- a fault of the first step, which checks the text
abbrev pub IsQueryFaultOf : List ℕ → Fault → Type 0
IsQueryFaultOf text (Query f) = IsRejectedBy (chars text) f
IsQueryFaultOf text (BadLine n) = ⊥
IsQueryFaultOf text WorkerRefused = ⊥
IsQueryFaultOf text Memory = ⊤

-- any fault except `WorkerRefused`
abbrev pub IsOneWorkerFault : Fault → Type 0
IsOneWorkerFault (Query f) = ⊤
IsOneWorkerFault (BadLine n) = ⊤
IsOneWorkerFault WorkerRefused = ⊥
IsOneWorkerFault Memory = ⊤
