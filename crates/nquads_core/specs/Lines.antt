-- The lines of a document (RDF 1.1 N-Quads, grammar: [8] EOL ::= [#xD#xA]+). LF is 10, CR is 13.
use Rattle.std.specs.Prelude.{◌≡◌, ℕ, Bool, false, ◌⊎◌, List, [], ◌∷◌, ◌++◌, ◌==◌, if◌then◌else◌}

-- put a byte at the front of the first line
abbrev pub onto_first : ℕ → List (List ℕ) → List (List ℕ)
onto_first b [] = (b ∷ []) ∷ []
onto_first b (line ∷ lines) = (b ∷ line) ∷ lines

-- the next byte is LF
abbrev pub begins_with_lf : List ℕ → Bool
begins_with_lf [] = false
begins_with_lf (b ∷ bytes) = b == 10

-- The texts before each line end, and what follows the last one where it is not empty. A line end is LF, CR LF, or a CR that no LF follows.
unfoldable pub lines : List ℕ → List (List ℕ)
lines [] = []
lines (b ∷ bytes) =
    if b == 10 then [] ∷ lines bytes
    else if b == 13 then (if begins_with_lf bytes then lines bytes else [] ∷ lines bytes)
    else onto_first b (lines bytes)

-- empty, or LF is at the end
abbrev pub EndsLine : List ℕ → Type 0
EndsLine bytes = (bytes ≡ []) ⊎ ((front : List ℕ) × (bytes ≡ front ++ 10 ∷ []))
