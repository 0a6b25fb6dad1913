-- Solutions (SPARQL 1.1 Query Language, section 18.1.8, solution mappings). T is the type of terms,
-- and `same` is their equality.
use Rattle.std.specs.Prelude.{Bool, true, ◌&&◌, List, [], ◌∷◌, Option, None, Some}
use Rattle.std.specs.Cmp.Lexicographic.{pointwise}
use Rattle.std.specs.Option.{option_eq}

-- A solution is a partial map from variables to terms. Variables are numbers, and the term of a
-- variable is at its number, or `None` if the map does not bind it. All solutions of one plan have
-- the same width, the count of its variables.
abbrev pub Solution : Type 0 → Type 0
Solution T = List (Option T)

-- the first if it is bound, and the second otherwise
abbrev pub bound_or : {T : Type 0} → Option T → Option T → Option T
bound_or None y = y
bound_or (Some x) y = Some x

-- the union of two solutions, used only if they are compatible
abbrev pub merge : {T : Type 0} → Solution T → Solution T → Solution T
merge [] ν = ν
merge (x ∷ μ) [] = x ∷ μ
merge (x ∷ μ) (y ∷ ν) = bound_or x y ∷ merge μ ν

module _ {T : Type 0} (same : T → T → Bool) where
  -- not bound to two different terms
  abbrev pub agree : Option T → Option T → Bool
  agree None y = true
  agree (Some x) None = true
  agree (Some x) (Some y) = same x y

  -- the solutions agree on every variable that both bind (section 18.3, compatible mappings)
  abbrev pub is_compatible : Solution T → Solution T → Bool
  is_compatible [] ν = true
  is_compatible (x ∷ μ) [] = true
  is_compatible (x ∷ μ) (y ∷ ν) = agree x y && is_compatible μ ν

  -- the solutions bind the same variables to the same terms
  abbrev pub same_solution : Solution T → Solution T → Bool
  same_solution = pointwise (option_eq same)
