-- The rows of a whole result from the rows of parts (a choice of this project).
use Rattle.std.specs.Prelude.{ℕ, ◌+◌, ◌≤◌, ⊤, Bool, true, false, List, Option, Some, None}
use Rattle.rdf_core.specs.declared.term.Term.{Term}
use Rattle.rdf_core.specs.Equality.{term_eq}
use Rattle.algebra_model.specs.Operators.{distinct}
use Rattle.algebra_model.specs.Pieces.{joined}
use Rattle.algebra_model.specs.RowOrder.{cells_cmp}
use Rattle.algebra_model.specs.Sorted.{slice, sorted_list}

-- a row of a result: the terms of its variables, where `None` is unbound
abbrev pub Row : Type 0
Row = List (Option Term)

-- the rows of a part
abbrev pub Table : Type 0
Table = List Row

-- each row once if they are to be distinct, and all rows otherwise (SPARQL 1.1 Query Language, section 18.5, Distinct)
abbrev pub kept : Bool → List Row → List Row
kept true rows = distinct term_eq rows
kept false rows = rows

-- The rows of all parts in ascending order, each once if they are to be distinct, and of these the part that OFFSET and
-- LIMIT leave.
abbrev pub merged : Bool → ℕ → Option ℕ → List Table → List Row
merged once offset limit tables = slice offset limit (sorted_list cells_cmp (kept once (joined tables)))

-- a part has enough rows for the whole: as many as OFFSET and LIMIT together, or all
abbrev pub IsEnough : Option ℕ → ℕ → Option ℕ → Type 0
IsEnough None offset limit = ⊤
IsEnough (Some m) offset None = ⊥
IsEnough (Some m) offset (Some n) = offset + n ≤ m
