-- The fault of each step of an answer is the result of document and text.
use Rattle.std.proofs.Common.{◌≡◌, ℕ, List, sym, subst}
use Rattle.std.specs.Str.{chars}
use Rattle.nquads_core.specs.Lines.{lines}
use Rattle.nquads_core.specs.Pieces.{IsBadLine}
use Rattle.dataset_load.specs.Fault.{IfBadLine, IsOneWorkerLoadFault}
use Rattle.dataset_load.specs.declared.fault.LoadFault.{LoadFault}
use Rattle.dataset_load.specs.declared.fault.LoadFault.TheVariants as load
use Rattle.row_pieces.specs.declared.fault.EvalFault.{EvalFault}
use Rattle.row_pieces.specs.declared.fault.EvalFault.TheVariants as eval
use Rattle.sparql_tree.specs.QueryTree.{QueryTree}
use Rattle.sparql_read.specs.Rejection.{IsValidQuery}
use Rattle.spq_core.specs.Composing.{fault_of_loading, fault_of_evaluation}
use Rattle.spq_core.specs.Faults.{IsFaultOf, IsQueryFaultOf, IsOneWorkerFault}
use Rattle.spq_core.specs.declared.fault.Fault.{Fault}
use Rattle.spq_core.specs.declared.fault.Fault.TheVariants.{Query, BadLine, WorkerRefused, Memory}

query_fault : (doc text : List ℕ) (f : Fault) → IsQueryFaultOf text f → IsFaultOf doc text f
query_fault doc text (Query f) h = h
query_fault doc text (BadLine n) h = absurd h
query_fault doc text WorkerRefused h = absurd h
query_fault doc text Memory h = tt

query_alone : (text : List ℕ) (f : Fault) → IsQueryFaultOf text f → IsOneWorkerFault f
query_alone text (Query f) h = tt
query_alone text (BadLine n) h = tt
query_alone text WorkerRefused h = h
query_alone text Memory h = tt

loading_fault : (doc text : List ℕ) (q : QueryTree) → IsValidQuery (chars text) q → (f : LoadFault) → IfBadLine (IsBadLine (lines doc)) f → IsFaultOf doc text (fault_of_loading f)
loading_fault doc text q r (load.BadLine n) h = ((q, r), h)
loading_fault doc text q r load.WorkerRefused h = (q, r)
loading_fault doc text q r load.Memory h = tt

loading_alone : (f : LoadFault) → IsOneWorkerLoadFault f → IsOneWorkerFault (fault_of_loading f)
loading_alone (load.BadLine n) h = tt
loading_alone load.WorkerRefused h = h
loading_alone load.Memory h = tt

evaluation_fault : (doc text : List ℕ) (q : QueryTree) → IsValidQuery (chars text) q → (f : EvalFault) → IsFaultOf doc text (fault_of_evaluation f)
evaluation_fault doc text q r eval.WorkerRefused = (q, r)
evaluation_fault doc text q r eval.Memory = tt

-- ---- the same of the fault that is returned

pub query_fault_is : (doc text : List ℕ) (e f : Fault) → e ≡ f → IsQueryFaultOf text f → IsFaultOf doc text e
query_fault_is doc text e f is h = subst (λ (x : Fault). IsFaultOf doc text x) (sym is) (query_fault doc text f h)

pub query_alone_is : (text : List ℕ) (e f : Fault) → e ≡ f → IsQueryFaultOf text f → IsOneWorkerFault e
query_alone_is text e f is h = subst (λ (x : Fault). IsOneWorkerFault x) (sym is) (query_alone text f h)

pub loading_fault_is : (doc text : List ℕ) (q : QueryTree) → IsValidQuery (chars text) q → (e : Fault) (f : LoadFault) → e ≡ fault_of_loading f → IfBadLine (IsBadLine (lines doc)) f → IsFaultOf doc text e
loading_fault_is doc text q r e f is h = subst (λ (x : Fault). IsFaultOf doc text x) (sym is) (loading_fault doc text q r f h)

pub loading_alone_is : (e : Fault) (f : LoadFault) → e ≡ fault_of_loading f → IsOneWorkerLoadFault f → IsOneWorkerFault e
loading_alone_is e f is h = subst (λ (x : Fault). IsOneWorkerFault x) (sym is) (loading_alone f h)

pub evaluation_fault_is : (doc text : List ℕ) (q : QueryTree) → IsValidQuery (chars text) q → (e : Fault) (f : EvalFault) → e ≡ fault_of_evaluation f → IsFaultOf doc text e
evaluation_fault_is doc text q r e f is = subst (λ (x : Fault). IsFaultOf doc text x) (sym is) (evaluation_fault doc text q r f)
