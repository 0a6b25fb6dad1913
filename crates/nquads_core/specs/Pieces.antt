-- What a piece of a document holds: the quads of its lines, or its first malformed line (the cut of a document
-- into pieces is a choice of this project, not of the standard).
use Rattle.std.specs.Prelude.{◌≡◌, ℕ, ◌+◌, zero, suc, List, [], ◌∷◌, ◌++◌, Option, option_to_list}
use Rattle.rdf_core.specs.QuadParts.{QuadParts}
use Rattle.nquads_core.specs.Grammar.{HasStatement, IsMalformed}

-- the lines hold the statements of these quads, in order
abbrev pub HaveStatements : List (List ℕ) → List QuadParts → Type 0
HaveStatements [] quads = quads ≡ []
HaveStatements (line ∷ lines) quads = (q : Option QuadParts) × (more : List QuadParts) × HasStatement line q × (quads ≡ option_to_list q ++ more) × HaveStatements lines more

-- the first malformed line is line k, counted from 0
abbrev pub IsFirstMalformed : List (List ℕ) → ℕ → Type 0
IsFirstMalformed [] k = ⊥
IsFirstMalformed (line ∷ lines) zero = IsMalformed line
IsFirstMalformed (line ∷ lines) (suc k) = ((q : Option QuadParts) × HasStatement line q) × IsFirstMalformed lines k

-- Line n, counted from 1, is the first malformed line.
abbrev pub IsBadLine : List (List ℕ) → ℕ → Type 0
IsBadLine lines n = (k : ℕ) × IsFirstMalformed lines k × (n ≡ k + 1)
