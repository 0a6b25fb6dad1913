-- A message about a place in a line of text (a choice of this project, not fixed by a standard). A
-- text is a list of characters, and a message is a list of bytes.
use Rattle.std.specs.Prelude.{◌≡◌, ℕ, List, [], ◌∷◌, ◌++◌, Option, IfSome, codes}
use Rattle.excerpt.specs.Excerpt.{excerpt_of}

-- the first line, with its line feed: the place and the reason
abbrev pub heading_of : List ℕ → List ℕ → List ℕ
heading_of place reason = codes "spq: " ++ (place ++ (codes ": " ++ (reason ++ (10 ∷ []))))

-- `spq: PLACE: REASON`, the excerpt of the line around the place, and a hint, which may be empty.
-- The words for the place are these, if they are known.
pub record IsMessage (words : Option (List ℕ)) (line : List ℕ) (at : ℕ) (bytes : List ℕ) : Type 0 where
  pub place : List ℕ
  pub reason : List ℕ
  pub hint : List ℕ
  pub whole : bytes ≡ heading_of place reason ++ (excerpt_of line at ++ hint)
  pub known : IfSome words (λ w. place ≡ w)
