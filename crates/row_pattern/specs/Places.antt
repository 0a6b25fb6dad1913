-- The places of a row for a pattern's variables and labels. Only private clauses use these
-- definitions.
use Rattle.std.specs.Prelude.{ℕ, Option, set}
use Rattle.algebra_model.specs.Solution.{Solution}
use Rattle.algebra_model.specs.Bgp.{PatternTerm, variable, constant}
use Rattle.row_pattern.specs.declared.cells.Place.{Place}
use Rattle.row_pattern.specs.declared.cells.Place.TheVariants.{Cell, Number}

-- a cell of the row is a variable; labels have the cells after the variables
abbrev pub place_term : Place → PatternTerm ℕ
place_term (Cell k) = variable k
place_term (Number n) = constant n

-- the row with the cell of the place written, if it has one
abbrev pub put_at : Place → Option ℕ → Solution ℕ → Solution ℕ
put_at (Cell k) x m = set m k x
put_at (Number n) x m = m
