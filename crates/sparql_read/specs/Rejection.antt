-- The rules that reject a query, and the one that a reader returns.
use Rattle.std.specs.Prelude.{◌≡◌, ◌<◌, ℕ, List, Bool, true, Result, Ok, Err}
use Rattle.sparql_lexer.specs.Terminal.{Terminal}
use Rattle.sparql_lexer.specs.Scan.{Scans}
use Rattle.sparql_tree.specs.declared.query.Query.{Query}
use Rattle.sparql_tree.specs.QueryTree.{QueryTree, query_of}
use Rattle.sparql_read.specs.declared.fault.QueryFault.{QueryFault}
use Rattle.sparql_read.specs.declared.fault.QueryFault.TheVariants.{Syntax, UndefinedPrefix, RelativeIri, BindScope, BlankReuse, TooDeep, Memory}
use Rattle.sparql_read.specs.Depth.{is_too_deep}
use Rattle.sparql_grammar.specs.Prologue.{has_undefined_prefix}
use Rattle.sparql_read.specs.RelativeIri.{has_relative_iri}
use Rattle.sparql_read.specs.BindScope.{breaks_bind_scope}
use Rattle.sparql_tree.specs.BlankReuse.{reuses_blank}
use Rattle.sparql_grammar.specs.Derives.{Derives}

-- brackets are nested too deep in the terminals of the text, up to the first place where there is
-- no terminal
pub record IsTooDeep (text : List ℕ) : Type 0 where
  pub terminals : List Terminal
  pub end : List ℕ
  pub scans : Scans text terminals end
  pub deep : is_too_deep terminals ≡ true

-- the text derives a query, and the test returns true for its terminals and its tree
pub record IsQueryWith (text : List ℕ) (test : List Terminal → QueryTree → Bool) : Type 0 where
  pub query : QueryTree
  pub derives : Derives text query
  pub holds : test derives.terminals query ≡ true

-- the rule rejects the text
abbrev pub Applies : QueryFault → List ℕ → Type 0
Applies Syntax text = (q : QueryTree) → Derives text q → ⊥
Applies UndefinedPrefix text = IsQueryWith text (λ ts q. has_undefined_prefix ts)
Applies RelativeIri text = IsQueryWith text (λ ts q. has_relative_iri ts)
Applies BindScope text = IsQueryWith text (λ ts q. breaks_bind_scope q.group)
Applies BlankReuse text = IsQueryWith text (λ ts q. reuses_blank q.group)
Applies TooDeep text = IsTooDeep text
Applies Memory text = ⊥

-- The rule on depth is before all others, which are in this order.
abbrev pub rank : QueryFault → ℕ
rank TooDeep = 0
rank Syntax = 1
rank UndefinedPrefix = 2
rank RelativeIri = 3
rank BindScope = 4
rank BlankReuse = 5
rank Memory = 6

-- the first of the rules that reject the text
pub record IsRejectedBy (text : List ℕ) (r : QueryFault) : Type 0 where
  pub applies : Applies r text
  pub first : (s : QueryFault) → rank s < rank r → Applies s text → ⊥

-- no rule rejects the text, and it derives the query
pub record IsValidQuery (text : List ℕ) (q : QueryTree) : Type 0 where
  pub derives : Derives text q
  pub allowed : (r : QueryFault) → Applies r text → ⊥

-- The result of a reader of queries: the query if no rule rejects the text, and otherwise the first
-- rule that does. Memory says nothing about the text.
abbrev pub IsReadResult : List ℕ → Result QueryTree QueryFault → Type 0
IsReadResult text (Ok q) = IsValidQuery text q
IsReadResult text (Err Memory) = Unit {0}
IsReadResult text (Err Syntax) = IsRejectedBy text Syntax
IsReadResult text (Err UndefinedPrefix) = IsRejectedBy text UndefinedPrefix
IsReadResult text (Err RelativeIri) = IsRejectedBy text RelativeIri
IsReadResult text (Err BindScope) = IsRejectedBy text BindScope
IsReadResult text (Err BlankReuse) = IsRejectedBy text BlankReuse
IsReadResult text (Err TooDeep) = IsRejectedBy text TooDeep

-- the model of a result of the code
abbrev pub seen : Result Query QueryFault → Result QueryTree QueryFault
seen (Ok q) = Ok (query_of q)
seen (Err e) = Err e
