-- The lists of an index and the first terms, built by the same workers. Only private clauses use these definitions.
use Rattle.std.specs.Prelude.{◌≡◌, ℕ, ◌+◌, ◌<◌, List, [], ◌∷◌}
use Rattle.rdf_core.specs.declared.term.Term.{Term}
use Rattle.dict_core.specs.declared.num_quad.NumQuad.{NumQuad}
use Rattle.dataset_load.specs.declared.building.Built.{Built}
use Rattle.dataset_load.specs.declared.building.Built.TheVariants.{Sorted, Read}
use Rattle.dataset_load.specs.Rounds.{IsSortedList, order_at}
use Rattle.dataset_load.specs.Terms.{IsTermPart}

-- this is list i of the quads, or the part of the terms that comes after three lists and the parts before it
abbrev pub IsBuilt : List NumQuad → List (List ℕ) → ℕ → Built → Type 0
IsBuilt quads texts i (Sorted list) = (i < 3) × IsSortedList (order_at i) quads list
IsBuilt quads texts i (Read dict) = (part : ℕ) × (i ≡ 3 + part) × IsTermPart texts part dict

-- the lists among these, in order
abbrev pub lists_in : List Built → List (List NumQuad)
lists_in [] = []
lists_in (Sorted list ∷ rest) = list ∷ lists_in rest
lists_in (Read dict ∷ rest) = lists_in rest

-- the parts of the terms among these, in order
abbrev pub terms_in : List Built → List (List Term)
terms_in [] = []
terms_in (Sorted list ∷ rest) = terms_in rest
terms_in (Read dict ∷ rest) = dict ∷ terms_in rest
