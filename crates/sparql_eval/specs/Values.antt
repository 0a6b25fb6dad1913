-- The values of an expression over pieces of rows, and their numbers. Only private clauses use
-- these definitions.
use Rattle.std.specs.Prelude.{◌≡◌, ℕ, ◌<◌, List, [], ◌∷◌, length, map, get_or, Option, Some, None, Contains}
use Rattle.std.specs.List.{flat_map}
use Rattle.rdf_core.specs.declared.term.Term.{Term}
use Rattle.algebra_model.specs.Expression.{Expression, val}
use Rattle.algebra_model.specs.Operators.{bind}
use Rattle.algebra_model.specs.Renaming.{Each, read_row}
use Rattle.algebra_model.specs.Solution.{Solution}
use Rattle.dict_core.specs.Dict.{term_at}
use Rattle.sparql_eval.specs.declared.piece_values.PieceValue.{PieceValue}
use Rattle.sparql_eval.specs.declared.piece_values.PieceValue.TheVariants.{Error, Known, Own}
use Rattle.sparql_eval.specs.declared.piece_values.PieceValues.{PieceValues}

-- the term of a value, or none for an error; the borrowed dictionary has `terms`, and the piece's
-- own has `own`
abbrev pub value_term : List Term → List Term → PieceValue → Option Term
value_term terms own Error = None
value_term terms own (Known n) = Some (term_at terms n)
value_term terms own (Own k) = Some (term_at own k)

-- its number is the number of a term
abbrev pub IsValueIn : List Term → List Term → PieceValue → Type 0
IsValueIn terms own Error = Unit {0}
IsValueIn terms own (Known n) = n < length terms
IsValueIn terms own (Own k) = k < length own

-- what was found for a row is its value, or an error if the row has none
abbrev pub IsValueOf : List Term → List Term → Option Term → PieceValue → Type 0
IsValueOf terms own value found = IsValueIn terms own found × (value_term terms own found ≡ value)

-- the value of the expression for each row
abbrev pub values_over : List Term → Expression → List (Solution ℕ) → List (Option Term)
values_over terms e A = map (λ μ. val e (read_row (term_at terms) μ)) A

-- each of the terms is one of the values
abbrev pub AreAmong : List Term → List (Option Term) → Type 0
AreAmong own values = (t : Term) → Contains own t → Contains values (Some t)

-- these are the values for the rows, and the piece's own dictionary has no other terms
abbrev pub AreValues : List Term → List Term → Expression → List (Solution ℕ) → List PieceValue → Type 0
AreValues terms own e A found =
    Each (IsValueIn terms own) found × (map (value_term terms own) found ≡ values_over terms e A) × AreAmong own (values_over terms e A)

-- the same for a piece
abbrev pub ArePieceValues : List Term → Expression → List (Solution ℕ) → PieceValues → Type 0
ArePieceValues terms e A piece = AreValues terms piece.own e A piece.values.items

-- the numbers of a piece are numbers of terms
abbrev pub IsPieceIn : List Term → PieceValues → Type 0
IsPieceIn terms piece = Each (IsValueIn terms piece.own) piece.values.items

-- the values of a piece, as terms
abbrev pub piece_terms : List Term → PieceValues → List (Option Term)
piece_terms terms piece = map (value_term terms piece.own) piece.values.items

-- the terms of the piece's own dictionary
abbrev pub own_terms : PieceValues → List Term
own_terms piece = piece.own

-- the same for pieces, concatenated
abbrev pub AreAllValues : List Term → Expression → List (Solution ℕ) → List PieceValues → Type 0
AreAllValues terms e A pieces =
    Each (IsPieceIn terms) pieces × (flat_map (piece_terms terms) pieces ≡ values_over terms e A) × AreAmong (flat_map own_terms pieces) (values_over terms e A)

-- the number of a value; the k-th number is that of the k-th of the piece's own terms
abbrev pub value_number : List ℕ → PieceValue → Option ℕ
value_number numbers Error = None
value_number numbers (Known n) = Some n
value_number numbers (Own k) = Some (get_or numbers k 0)

-- a number of the piece's own dictionary is below n
abbrev pub IsOwnBelow : ℕ → PieceValue → Type 0
IsOwnBelow n Error = Unit {0}
IsOwnBelow n (Known m) = Unit {0}
IsOwnBelow n (Own k) = k < n

-- the rows, each with the variable bound to its number
abbrev pub bind_each : ℕ → List (Option ℕ) → List (Solution ℕ) → List (Solution ℕ)
bind_each v [] A = []
bind_each v (n ∷ numbers) [] = []
bind_each v (n ∷ numbers) (μ ∷ A) = bind v n μ ∷ bind_each v numbers A
