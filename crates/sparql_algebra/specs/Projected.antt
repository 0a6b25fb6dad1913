-- The variables that a query projects: those of the Project at the root, or directly below a
-- Distinct at the root.
use Rattle.std.specs.Prelude.{ℕ, List, []}
use Rattle.algebra_model.specs.Algebra.{Algebra, Project, Distinct}

abbrev pub top_projected : Algebra → List ℕ
top_projected (Project vs A) = vs
top_projected _ = []

abbrev pub projected : Algebra → List ℕ
projected (Distinct A) = top_projected A
projected A = top_projected A
