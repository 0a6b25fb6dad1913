-- What `needed` writes (a choice of this project).
use Rattle.std.specs.Prelude.{◌≡◌, ℕ, Bool, true, List, [], ◌++◌, None, length}
use Rattle.std.specs.Option.{option_eq}
use Rattle.std.specs.Str.{chars}
use Rattle.rdf_core.specs.Equality.{term_eq}
use Rattle.rdf_core.specs.QuadParts.{QuadParts}
use Rattle.nquads_core.specs.Lines.{lines}
use Rattle.nquads_core.specs.Pieces.{HaveStatements, IsFirstMalformed}
use Rattle.sparql_tree.specs.QueryTree.{QueryTree}
use Rattle.sparql_read.specs.Rejection.{IsValidQuery}
use Rattle.sparql_algebra.specs.Translation.{translate}
use Rattle.quad_filter.specs.Filter.{keeps}
use Rattle.quad_filter.specs.Kept.{IsKept}
use Rattle.quad_filter.specs.declared.filter.QuadFilter.{QuadFilter}
use Rattle.needed_quads.specs.Needed.{is_needed}
use Rattle.cluster_parts.specs.Parts.{quad_document}

-- the query needs the quad
abbrev pub needs : QueryTree → QuadParts → Bool
needs query q = is_needed q (option_eq term_eq q.g None) [] (translate query).algebra

-- After this number of bytes, which are the text of a query, is a block. The output is the quads of the block, in order, without
-- some that the query does not need.
pub record IsNeededOf (count : ℕ) (input output : List ℕ) : Type 0 where
  pub text : List ℕ
  pub block : List ℕ
  pub query : QueryTree
  pub quads : List QuadParts
  pub kept : List QuadParts
  pub first : length text ≡ count
  pub read : input ≡ text ++ block
  pub valid : IsValidQuery (chars text) query
  pub statements : HaveStatements (lines block) quads
  pub needed : IsKept (needs query) quads kept
  pub written : output ≡ quad_document kept

-- the block after this number of bytes has a first malformed line
pub record IsBadAfter (count : ℕ) (input : List ℕ) (k : ℕ) : Type 0 where
  pub text : List ℕ
  pub block : List ℕ
  pub first : length text ≡ count
  pub read : input ≡ text ++ block
  pub malformed : IsFirstMalformed (lines block) k

-- Only private clauses use this definition: the filter keeps the quads that the query needs.
abbrev pub KeepsNeeded : QueryTree → QuadFilter → Type 0
KeepsNeeded query filter = (q : QuadParts) → needs query q ≡ true → keeps filter q ≡ true
