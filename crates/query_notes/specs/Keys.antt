-- The keys by which errors are counted (a choice of this project).
use Rattle.std.specs.Prelude.{◌≡◌, ◌<◌, List, length, slice_index_or}
use Rattle.expression_errors.specs.declared.counts.Key.{Key}
use Rattle.query_notes.specs.declared.outline.Site.{Site}

-- The key names an expression of the query, and has the number of its FILTERs.
pub record IsKeyOf (sites : List Site) (key : Key) : Type 0 where
  pub site : key.expression < length sites
  pub filters : (other : Site) → key.filters ≡ length (slice_index_or sites key.expression other).keywords.items
