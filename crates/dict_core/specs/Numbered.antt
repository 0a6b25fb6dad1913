-- Quads numbered by a dictionary.
use Rattle.std.specs.Prelude.{◌≡◌, ℕ, List, length, get_or}
use Rattle.std.specs.List.{flat_map}
use Rattle.std.specs.Option.{option_map}
use Rattle.rdf_core.specs.declared.term.Term.{Term}
use Rattle.rdf_core.specs.QuadParts.{QuadParts}
use Rattle.dict_core.specs.declared.num_quad.NumQuad.{NumQuad}
use Rattle.dict_core.specs.NumQuad.{quads_at, AreBelow}
use Rattle.dict_core.specs.Appearances.{terms_of, first_appearances}

-- the dictionary is the terms of the quads by first appearance, and no other; each number is that of
-- one of them; and the numbered quads, read through it, are the quads, in order
abbrev pub IsNumbered : List QuadParts → List Term → List NumQuad → Type 0
IsNumbered quads dict numbered =
    (dict ≡ first_appearances (terms_of quads)) × AreBelow (length dict) numbered
    × (quads_at dict numbered ≡ quads)

-- the quads of the pieces, one piece after the other
abbrev pub joined : List (List QuadParts) → List QuadParts
joined pieces = flat_map (λ piece. piece) pieces

-- a quad with the n-th of these numbers in the place of each number n
abbrev pub renamed : List ℕ → NumQuad → NumQuad
renamed numbers q = record {
  g = option_map (λ n. get_or numbers n 0) q.g;
  s = get_or numbers q.s 0;
  p = get_or numbers q.p 0;
  o = get_or numbers q.o 0;
}
