-- The first character of a text. Only private clauses use this definition.
use Rattle.std.specs.Prelude.{◌≡◌, ℕ, List, [], ◌∷◌, Option, Some, None}
use Rattle.std.specs.Borrow.{Bor}

-- the first character and the text after it, or None if the text is empty
abbrev pub IsNextCharacter : List ℕ → Option (ℕ × Bor (List ℕ)) → Type 0
IsNextCharacter ts None = ts ≡ []
IsNextCharacter ts (Some p) = ts ≡ p.0 ∷ p.1.now
