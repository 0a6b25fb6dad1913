-- What the laws of this crate say.
use Rattle.std.specs.Prelude.{◌≡◌, ◌↔◌, true, ℕ, List, ◌++◌, map}
use Rattle.rdf_core.specs.declared.term.Term.{Term}
use Rattle.rdf_core.specs.QuadParts.{QuadParts}
use Rattle.dict_core.specs.declared.num_quad.NumQuad.{NumQuad}
use Rattle.dict_core.specs.Dict.{AreNumbersOf}
use Rattle.dict_core.specs.Appearances.{first_appearances}
use Rattle.dict_core.specs.Equality.{quad_eq}
use Rattle.dict_core.specs.Numbered.{IsNumbered, renamed}

-- two quads of numbers are equal by `==` exactly if they are the same
abbrev pub QuadEqualityIsIdentity : Type 0
QuadEqualityIsIdentity = (a b : NumQuad) → (quad_eq a b ≡ true) ↔ (a ≡ b)

-- two lists of quads that are numbered each by itself, the second dictionary absorbed into the
-- first and the second quads renamed, are the joined list numbered: so it is no matter in which
-- groups consecutive pieces are merged
abbrev pub AbsorbingKeepsTheNumbering : Type 0
AbsorbingKeepsTheNumbering =
    (front back : List QuadParts) (dict own : List Term) (numbered mine : List NumQuad)
    (numbers : List ℕ) → IsNumbered front dict numbered → IsNumbered back own mine
    → let merged = first_appearances (dict ++ own) in AreNumbersOf merged own numbers
    → IsNumbered (front ++ back) merged (numbered ++ map (renamed numbers) mine)
