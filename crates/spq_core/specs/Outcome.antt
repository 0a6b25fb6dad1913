-- What a query over a document must give: the result, or why there is none. The query is checked
-- before the document.
use Rattle.std.specs.Prelude.{◌≡◌, ℕ, List, length, Option, None, unwrap_or, Result, Ok, Err}
use Rattle.std.specs.Str.{chars}
use Rattle.rdf_core.specs.declared.term.Term.{Term}
use Rattle.rdf_core.specs.QuadParts.{QuadParts}
use Rattle.nquads_core.specs.Lines.{lines}
use Rattle.nquads_core.specs.Pieces.{HaveStatements, IsBadLine}
use Rattle.sparql_tree.specs.QueryTree.{QueryTree}
use Rattle.sparql_read.specs.declared.fault.QueryFault.{QueryFault}
use Rattle.sparql_read.specs.Rejection.{IsValidQuery, IsRejectedBy}
use Rattle.sparql_algebra.specs.Names.{names_of, selected_names}
use Rattle.sparql_algebra.specs.Translation.{projection, translate}
use Rattle.algebra_model.specs.Eval.{eval}
use Rattle.algebra_model.specs.RowOrder.{sorted_rows}
use Rattle.algebra_model.specs.Sorted.{slice}
use Rattle.result_json.specs.Results.{json}

-- why a query has no result
pub data Failure : Type 0 where
  -- this is the first rule that rejects the text of the query
  query : QueryFault → Failure
  -- the line, counted from 1, is the first malformed line
  bad_line : ℕ → Failure

-- The rows of a query over the quads of a dataset (SPARQL 1.1 Query Language, sections 18.2 and
-- 18.6): the solutions of its algebra expression, with the default graph active; of each the
-- projected variables; all in their order; and of this list the part that OFFSET, 0 where it is
-- absent, and LIMIT leave.
unfoldable pub rows : QueryTree → List QuadParts → List (List (Option Term))
rows q quads =
    slice (unwrap_or q.offset 0) q.limit
    (sorted_rows (projection q) (eval (length (names_of q)) quads None (translate q).algebra))

-- The bytes are the JSON of the query's rows over the dataset of the document, which is the set of the
-- statements of its lines.
pub record IsJsonOf (doc : List ℕ) (query : QueryTree) (bytes : List ℕ) : Type 0 where
  pub quads : List QuadParts
  pub statements : HaveStatements (lines doc) quads
  pub printed : bytes ≡ json (selected_names query) (rows query quads)

-- no rule rejects the text, and the bytes are the JSON of the query that it is
pub record IsAnswer (doc text bytes : List ℕ) : Type 0 where
  pub query : QueryTree
  pub read : IsValidQuery (chars text) query
  pub results : IsJsonOf doc query bytes

-- no rule rejects the text, and line n is the first malformed line
abbrev pub FailsAtLine : List ℕ → List ℕ → ℕ → Type 0
FailsAtLine doc text n = ((query : QueryTree) × IsValidQuery (chars text) query) × IsBadLine (lines doc) n

-- the result of document and text
abbrev pub IsQueryResult : List ℕ → List ℕ → Result (List ℕ) Failure → Type 0
IsQueryResult doc text (Ok bytes) = IsAnswer doc text bytes
IsQueryResult doc text (Err (query fault)) = IsRejectedBy (chars text) fault
IsQueryResult doc text (Err (bad_line n)) = FailsAtLine doc text n
