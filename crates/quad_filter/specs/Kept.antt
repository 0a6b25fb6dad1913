-- Quads of a list that a filter keeps, and perhaps others of the list.
use Rattle.std.specs.Prelude.{◌≡◌, ◌⊎◌, Bool, false, List, [], ◌∷◌}
use Rattle.rdf_core.specs.QuadParts.{QuadParts}

-- These are the quads of the list, in order, without some that the filter does not keep.
abbrev pub IsKept : (QuadParts → Bool) → List QuadParts → List QuadParts → Type 0
IsKept keeps [] kept = kept ≡ []
IsKept keeps (q ∷ quads) kept =
    ((more : List QuadParts) × (kept ≡ q ∷ more) × IsKept keeps quads more)
    ⊎ ((keeps q ≡ false) × IsKept keeps quads kept)
