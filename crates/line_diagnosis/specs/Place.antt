-- The place at which a malformed line goes wrong (a choice of this project, not fixed by the
-- standard).
use Rattle.std.specs.Prelude.{ℕ, ◌≤◌, ◌<◌, List, ◌++◌, length, take, Option}
use Rattle.std.specs.Str.{IsUtf8}
use Rattle.rdf_core.specs.QuadParts.{QuadParts}
use Rattle.nquads_core.specs.Grammar.{HasStatement}

-- the line holds a statement, or is blank or a comment
pub record IsWellFormed (line : List ℕ) : Type 0 where
  pub meaning : Option QuadParts
  pub statement : HasStatement line meaning

-- some well-formed line begins with these bytes
pub record IsLinePrefix (front : List ℕ) : Type 0 where
  pub rest : List ℕ
  pub whole : IsWellFormed (front ++ rest)

-- The bytes before the place are whole characters, and some well-formed line begins with them. No
-- well-formed line begins with more whole characters of the line. So the place is before the first
-- character that is not allowed there, or at the end of the line. Where the line goes on with bytes
-- that are no character, no longer beginning is whole characters, so the place is not after them.
pub record IsPlace (line : List ℕ) (offset : ℕ) : Type 0 where
  pub in_line : offset ≤ length line
  pub characters : IsUtf8 (take offset line)
  pub beginning : IsLinePrefix (take offset line)
  pub longest : (n : ℕ) → offset < n → n ≤ length line
      → IsUtf8 (take n line) → IsLinePrefix (take n line) → ⊥
