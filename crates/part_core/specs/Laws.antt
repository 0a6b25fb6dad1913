-- What the laws of this crate say: the quads that a query needs give its result (laws of this project).
use Rattle.std.specs.Prelude.{ℕ, Bool, List, Ok}
use Rattle.std.specs.List.{AllZip}
use Rattle.std.specs.Str.{chars}
use Rattle.rdf_core.specs.QuadParts.{QuadParts}
use Rattle.nquads_core.specs.Lines.{lines}
use Rattle.nquads_core.specs.Pieces.{HaveStatements}
use Rattle.algebra_model.specs.Pieces.{joined}
use Rattle.sparql_tree.specs.QueryTree.{QueryTree}
use Rattle.sparql_read.specs.Rejection.{IsValidQuery}
use Rattle.quad_filter.specs.Kept.{IsKept}
use Rattle.cluster_parts.specs.Parts.{quad_document}
use Rattle.spq_core.specs.Outcome.{IsQueryResult}
use Rattle.part_core.specs.Needed.{needs}

-- What is kept of the quads of a document is the quads of the document that `needed` writes.
abbrev pub KeptAreDocument : Type 0
KeptAreDocument = (keep : QuadParts → Bool) (block : List ℕ) (quads kept : List QuadParts)
    → HaveStatements (lines block) quads
    → IsKept keep quads kept
    → HaveStatements (lines (quad_document kept)) kept

-- What is kept of the blocks, one block after the other, is kept of the whole.
abbrev pub KeptOfBlocksJoin : Type 0
KeptOfBlocksJoin = (keep : QuadParts → Bool) (quads kept : List (List QuadParts))
    → AllZip (IsKept keep) quads kept
    → IsKept keep (joined quads) (joined kept)

-- A document that has the needed quads of another one gives the same result.
abbrev pub NeededGiveResult : Type 0
NeededGiveResult = (text : List ℕ) (query : QueryTree) (document other : List ℕ) (quads kept : List QuadParts) (result : List ℕ)
    → IsValidQuery (chars text) query
    → HaveStatements (lines document) quads
    → HaveStatements (lines other) kept
    → IsKept (needs query) quads kept
    → IsQueryResult other text (Ok result)
    → IsQueryResult document text (Ok result)
