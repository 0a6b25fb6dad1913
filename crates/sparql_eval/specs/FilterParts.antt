-- What each row gives under a filter. Only private clauses use this definition.
use Rattle.std.specs.Prelude.{ℕ, List, [], ◌∷◌, map, if◌then◌else◌}
use Rattle.rdf_core.specs.declared.term.Term.{Term}
use Rattle.algebra_model.specs.Expression.{Expression, holds}
use Rattle.algebra_model.specs.Renaming.{read_row}
use Rattle.algebra_model.specs.Solution.{Solution}
use Rattle.dict_core.specs.Dict.{term_at}

-- the row itself if it passes
abbrev pub filter_part : List Term → Expression → Solution ℕ → List (Solution ℕ)
filter_part terms e μ = if holds e (read_row (term_at terms) μ) then μ ∷ [] else []

-- what each of the rows gives
abbrev pub filter_parts : List Term → Expression → List (Solution ℕ) → List (List (Solution ℕ))
filter_parts terms e A = map (filter_part terms e) A
