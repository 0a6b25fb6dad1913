-- Quads of numbers: the lines that they were read of, the hash of a quad from the hashes of its terms, and its line from their
-- texts. Only private clauses use these definitions.
use Rattle.std.specs.Prelude.{◌≡◌, ℕ, ◌+◌, ◌<◌, List, [], ◌∷◌, ◌++◌, Option, Some, None, get_or, length, codes}
use Rattle.rdf_core.specs.QuadParts.{QuadParts}
use Rattle.nquads_core.specs.Pieces.{HaveStatements}
use Rattle.dict_core.specs.declared.num_quad.NumQuad.{NumQuad}
use Rattle.quad_filter.specs.Filter.{keeps}
use Rattle.quad_filter.specs.Kept.{IsKept}
use Rattle.quad_filter.specs.declared.filter.QuadFilter.{QuadFilter}
use Rattle.text_pieces.specs.Forms.{AreNumberedBy}
use Rattle.cluster_parts.specs.declared.numbering.NumberedLines.{NumberedLines}
use Rattle.cluster_parts.specs.declared.hashed_places.HashedPlace.{HashedPlace}
use Rattle.cluster_parts.specs.Hash.{hash_numbers}

-- the quads of a block, numbered by its texts
abbrev pub AreQuadsOf : List QuadParts → NumberedLines → Type 0
AreQuadsOf quads block = AreNumberedBy quads block.texts.texts block.quads.items

-- the lines are valid, those of their quads that the filter keeps, and perhaps others, are numbered, and the lines are counted
pub record AreRead (filter : QuadFilter) (block : NumberedLines) (lines : List (List ℕ)) : Type 0 where
  pub all : List QuadParts
  pub statements : HaveStatements lines all
  pub quads : List QuadParts
  pub kept : IsKept (keeps filter) all quads
  pub numbered : AreQuadsOf quads block
  pub count : block.lines ≡ length lines

abbrev pub name_hash_by_number : List ℕ → Option ℕ → ℕ
name_hash_by_number hashes None = 0
name_hash_by_number hashes (Some n) = get_or hashes n 0

abbrev pub hash_by_numbers : List ℕ → NumQuad → ℕ
hash_by_numbers hashes q =
    hash_numbers (get_or hashes q.s 0 ∷ get_or hashes q.p 0 ∷ get_or hashes q.o 0 ∷ name_hash_by_number hashes q.g ∷ [])

-- the quad at a place of a list that has this place
abbrev pub quad_there : List NumQuad → HashedPlace → NumQuad
quad_there quads x = get_or quads x.place (record { g = None; s = 0; p = 0; o = 0 })

-- the place is in the list, and the hash is that of the quad there
abbrev pub IsHashed : List ℕ → List NumQuad → HashedPlace → Type 0
IsHashed hashes quads x = (x.place < length quads) × (x.hash ≡ hash_by_numbers hashes (quad_there quads x))

-- the hashes differ, or the quads at both places are the same
abbrev pub Agree : List NumQuad → HashedPlace → HashedPlace → Type 0
Agree quads x y = x.hash ≡ y.hash → quad_there quads x ≡ quad_there quads y

-- so it is for each two neighbours
abbrev pub NeighboursAgree : List NumQuad → List HashedPlace → Type 0
NeighboursAgree quads places =
    (k : ℕ) (d : HashedPlace) → k + 1 < length places → Agree quads (get_or places k d) (get_or places (k + 1) d)

-- the text with this number
abbrev pub text_at : List (List ℕ) → ℕ → List ℕ
text_at texts n = get_or texts n []

-- the graph name, if there is one, and the dot
abbrev pub end_by_number : List (List ℕ) → Option ℕ → List ℕ
end_by_number texts None = codes "."
end_by_number texts (Some n) = text_at texts n ++ codes " ."

-- the line of a quad
abbrev pub line_by_numbers : List (List ℕ) → NumQuad → List ℕ
line_by_numbers texts q =
    (text_at texts q.s ++ (codes " " ++ (text_at texts q.p ++ (codes " " ++ (text_at texts q.o ++ (codes " " ++ end_by_number texts q.g))))))
    ++ codes "\n"
