-- Variables whose terms have one key wherever a condition is true. Only private clauses use these
-- definitions.
use Rattle.std.specs.Prelude.{◌≡◌, ℕ, true, List, Option, None, Some, get_or}
use Rattle.rdf_core.specs.declared.term.Term.{Term}
use Rattle.algebra_model.specs.Expression.{Expression, holds, val, variable}
use Rattle.algebra_model.specs.Renaming.{Each}
use Rattle.algebra_model.specs.Solution.{Solution}
use Rattle.sparql_eval.specs.KeyedRows.{ArePaired}
use Rattle.sparql_eval.specs.declared.equalities.Equality.{Equality}

-- wherever the first is true, the second is
abbrev pub Implies : Expression → Expression → Type 0
Implies e c = (ρ : Solution Term) → holds e ρ ≡ true → holds c ρ ≡ true

-- wherever the condition is true, both expressions have a value, and the values have one key
abbrev pub IsRequiredEqual : Expression → Expression → Expression → Type 0
IsRequiredEqual e a b =
    (ρ : Solution Term) → holds e ρ ≡ true
    → (s : Term) × ((t : Term) × ((val a ρ ≡ Some s) × ((val b ρ ≡ Some t) × ArePaired s t)))

-- where the expression has a value, the variable has a term with the key of the value
abbrev pub IsKeyedBy : Expression → ℕ → Type 0
IsKeyedBy a x = (ρ : Solution Term) (s : Term) → val a ρ ≡ Some s → (t : Term) × ((get_or ρ x None ≡ Some t) × ArePaired s t)

-- what `IsRequiredEqual` says, of two variables
abbrev pub IsRequired : Expression → ℕ → ℕ → Type 0
IsRequired e x y = IsRequiredEqual e (variable x) (variable y)

-- the same of each pair
abbrev pub AreRequired : Expression → List Equality → Type 0
AreRequired e pairs = Each (λ p. IsRequired e p.left.variable p.right.variable) pairs

-- a fact about a pair, if there is one
abbrev pub OnSomePair : Option Equality → (Equality → Type 0) → Type 0
OnSomePair None P = Unit {0}
OnSomePair (Some p) P = P p
