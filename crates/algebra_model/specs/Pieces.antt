-- A list cut into pieces. Only proofs, laws and private clauses use this definition.
use Rattle.std.specs.Prelude.{List, flat_map}

-- the concatenated pieces
abbrev pub joined : {X : Type 0} → List (List X) → List X
joined pieces = flat_map (λ piece. piece) pieces
