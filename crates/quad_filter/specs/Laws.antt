-- What the laws of this crate say.
use Rattle.std.specs.Prelude.{◌≡◌, Bool, true, List, ◌++◌, Contains}
use Rattle.rdf_core.specs.QuadParts.{QuadParts}
use Rattle.quad_filter.specs.declared.filter.QuadFilter.TheVariants.{All}
use Rattle.quad_filter.specs.Filter.{keeps}
use Rattle.quad_filter.specs.Kept.{IsKept}

-- The filter for every quad leaves out nothing.
abbrev pub AllIsKept : Type 0
AllIsKept = (quads kept : List QuadParts) → IsKept (keeps All) quads kept → kept ≡ quads

-- Nothing need be left out.
abbrev pub ListIsKept : Type 0
ListIsKept = (keep : QuadParts → Bool) (quads : List QuadParts) → IsKept keep quads quads

-- What is kept of two lists is kept of both together.
abbrev pub KeptJoin : Type 0
KeptJoin = (keep : QuadParts → Bool) (a b c d : List QuadParts) → IsKept keep a b → IsKept keep c d → IsKept keep (a ++ c) (b ++ d)

-- What is kept is in the list.
abbrev pub KeptAreListed : Type 0
KeptAreListed = (keep : QuadParts → Bool) (quads kept : List QuadParts) (q : QuadParts)
    → IsKept keep quads kept
    → Contains kept q
    → Contains quads q

-- What is in the list and wanted is kept.
abbrev pub WantedAreKept : Type 0
WantedAreKept = (keep : QuadParts → Bool) (quads kept : List QuadParts) (q : QuadParts)
    → IsKept keep quads kept
    → Contains quads q
    → keep q ≡ true
    → Contains kept q
