-- The lines at the front of a text, which hold statements or are blank or comments.
use Rattle.std.specs.Prelude.{◌≡◌, ℕ, List, ◌∷◌, ◌++◌, length, Option}
use Rattle.rdf_core.specs.QuadParts.{QuadParts}
use Rattle.nquads_core.specs.Grammar.{HasStatement}
use Rattle.nquads_core.specs.Lines.{lines}
use Rattle.nquads_core.specs.Pieces.{HaveStatements}

-- the lines before the rest of the text hold the statements of these quads, and are this many
pub record AreLinesBefore (quads : List QuadParts) (count : ℕ) (rest text : List ℕ) : Type 0 where
  pub before : List (List ℕ)
  pub parts : lines text ≡ before ++ lines rest
  pub statements : HaveStatements before quads
  pub number : length before ≡ count

-- The first line of the text, and the statement that it holds. Only private clauses use this definition.
pub record FirstLine (text rest : List ℕ) (q : Option QuadParts) : Type 0 where
  pub line : List ℕ
  pub parts : lines text ≡ line ∷ lines rest
  pub statement : HasStatement line q
