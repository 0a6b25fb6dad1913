-- Pieces that are read in parallel, and then added. Only private clauses use these definitions.
use Rattle.std.specs.Prelude.{◌≡◌, ℕ, zero, suc, ◌+◌, ◌<◌, ◌==◌, List, [], ◌∷◌, length, slice_index_or, IsSorted, IsPermutation, if◌then◌else◌}
use Rattle.std.specs.List.{AllZip}
use Rattle.rdf_core.specs.QuadParts.{QuadParts}
use Rattle.nquads_core.specs.Pieces.{HaveStatements, IsFirstMalformed}
use Rattle.algebra_model.specs.Bag.{IsWithoutRepeats, without_repeats}
use Rattle.dict_core.specs.declared.num_quad.NumQuad.{NumQuad}
use Rattle.dict_core.specs.Equality.{quad_eq}
use Rattle.quad_filter.specs.declared.filter.QuadFilter.{QuadFilter}
use Rattle.quad_filter.specs.Filter.{keeps}
use Rattle.quad_filter.specs.Kept.{IsKept}
use Rattle.quad_index.specs.declared.sort_order.SortOrder.{SortOrder}
use Rattle.quad_index.specs.declared.sort_order.SortOrder.TheVariants.{Gspo, Gpos, Gosp}
use Rattle.quad_index.specs.SortOrder.{order_cmp}
use Rattle.text_pieces.specs.declared.text_piece.TextPiece.{TextPiece}
use Rattle.text_pieces.specs.Forms.{AreNumberedBy}
use Rattle.text_pieces.specs.Pieces.{IsPieceOf}
use Rattle.dataset_load.specs.declared.numbered.Numbered.{Numbered}

-- each piece has its quads, numbered against a dictionary with these texts
abbrev pub ArePiecesOf : List (List ℕ) → List (List QuadParts) → List TextPiece → Type 0
ArePiecesOf dict each pieces = AllZip (IsPieceOf dict) each pieces

-- how many lines the pieces have
abbrev pub line_total : List TextPiece → ℕ
line_total [] = 0
line_total (piece ∷ pieces) = piece.lines + line_total pieces

-- The lines are valid, and the quads of them that the filter keeps, and perhaps others of them, are numbered by a dictionary
-- with these texts.
pub record AreNumbered (filter : QuadFilter) (lines texts : List (List ℕ)) (numbers : List NumQuad) : Type 0 where
  pub all : List QuadParts
  pub statements : HaveStatements lines all
  pub quads : List QuadParts
  pub kept : IsKept (keeps filter) all quads
  pub numbered : AreNumberedBy quads texts numbers

-- The quads of these lines that the filter keeps are numbered, and perhaps others of them; and the lines are counted.
pub record HasRead (so_far : Numbered) (ls : List (List ℕ)) : Type 0 where
  pub numbered : AreNumbered so_far.filter.now ls so_far.dict.texts so_far.quads
  pub count : so_far.lines ≡ length ls

-- the order of the i-th list of an index
abbrev pub order_at : ℕ → SortOrder
order_at i = if i == 0 then Gspo else if i == 1 then Gpos else Gosp

-- the quads in this order, each once
pub record IsSortedList (order : SortOrder) (quads list : List NumQuad) : Type 0 where
  pub sorted : IsSorted (order_cmp order) list
  pub each_once : IsPermutation (without_repeats quad_eq quads) list
  pub distinct : IsWithoutRepeats quad_eq list

-- the quads in the three orders, each once
pub record AreSortedLists (quads : List NumQuad) (lists : List (List NumQuad)) : Type 0 where
  pub three : length lists ≡ 3
  pub each : (i : ℕ) → i < 3 → IsSortedList (order_at i) quads (slice_index_or lists i [])

-- No lines are all valid and have a first malformed line.
pub not_both : (ls : List (List ℕ)) (quads : List QuadParts) (k : ℕ) → HaveStatements ls quads → IsFirstMalformed ls k → ⊥
not_both [] quads k s b = b
not_both (l ∷ ls) quads zero s b = b s.0 s.2
not_both (l ∷ ls) quads (suc k) s b = not_both ls s.1 k s.4 b.1
