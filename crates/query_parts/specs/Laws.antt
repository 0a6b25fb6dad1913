-- What the laws of this crate say.
use Rattle.std.specs.Prelude.{◌≡◌, ℕ, true, List, ◌∷◌, Option, map, unwrap_or}
use Rattle.rdf_core.specs.QuadParts.{QuadParts}
use Rattle.nquads_core.specs.Lines.{lines}
use Rattle.nquads_core.specs.Pieces.{HaveStatements}
use Rattle.algebra_model.specs.Bag.{IsSameSet}
use Rattle.algebra_model.specs.Pieces.{joined}
use Rattle.algebra_model.specs.Renaming.{Each}
use Rattle.sparql_tree.specs.QueryTree.{QueryTree}
use Rattle.sparql_read.specs.Rejection.{IsValidQuery}
use Rattle.spq_core.specs.Outcome.{rows}
use Rattle.row_merge.specs.Merged.{IsEnough, merged}
use Rattle.result_merge.specs.Merging.{AreTagged}
use Rattle.query_split.specs.declared.split.Split.{Split}
use Rattle.query_split.specs.declared.split.Split.TheVariants as by
use Rattle.query_split.specs.Condition.{Key}
use Rattle.query_split.specs.Parts.{AreParts}
use Rattle.query_split.specs.ForParts.{for_parts, is_splittable}

-- The rows of a query over a dataset are the merged rows of the query for the parts.
abbrev pub PartsGiveRows : Type 0
PartsGiveRows =
    (split : Split) (key : Key) (q : QueryTree)
    → is_splittable split key q ≡ true
    → (limit : Option ℕ)
    → IsEnough limit (unwrap_or q.offset 0) q.limit
    → (D part : List QuadParts) (parts : List (List QuadParts))
    → AreParts split part parts
    → IsSameSet D (joined (part ∷ parts))
    → rows q D ≡ merged q.distinct (unwrap_or q.offset 0) q.limit (map (rows (for_parts limit q)) (part ∷ parts))

-- With DISTINCT the parts of a split by lines may have quads in common.
abbrev pub OverlappingPartsGiveRows : Type 0
OverlappingPartsGiveRows =
    (key : Key) (q : QueryTree)
    → is_splittable by.Lines key q ≡ true
    → q.distinct ≡ true
    → (limit : Option ℕ)
    → IsEnough limit (unwrap_or q.offset 0) q.limit
    → (D part : List QuadParts) (parts : List (List QuadParts))
    → IsSameSet D (joined (part ∷ parts))
    → rows q D ≡ merged q.distinct (unwrap_or q.offset 0) q.limit (map (rows (for_parts limit q)) (part ∷ parts))

-- the quads are the statements of a document
abbrev pub IsOfDocument : List QuadParts → Type 0
IsOfDocument quads = (document : List ℕ) × HaveStatements (lines document) quads

-- In the rows of a query over documents each literal with a language tag has the datatype rdf:langString.
abbrev pub RowsAreTagged : Type 0
RowsAreTagged =
    (text : List ℕ) (q : QueryTree)
    → IsValidQuery text q
    → (parts : List (List QuadParts)) → Each IsOfDocument parts
    → AreTagged (map (rows q) parts)
