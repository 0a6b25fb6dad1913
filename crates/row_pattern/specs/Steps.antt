-- The steps in which a pattern is solved (SPARQL 1.1 Query Language, section 18.3). Only private
-- clauses use these definitions.
use Rattle.std.specs.Prelude.{ℕ, ◌+◌, List, map, take, flat_map, filter_map, nat_eq}
use Rattle.algebra_model.specs.Solution.{Solution}
use Rattle.algebra_model.specs.Bgp.{Triple, PatternTerm, TriplePattern, variable, label, constant}
use Rattle.algebra_model.specs.Solve.{solve, extend_by}
use Rattle.row_pattern.specs.declared.steps.Step.{Step}
use Rattle.row_pattern.specs.Places.{place_term}

-- the triple pattern of a step
abbrev pub step_pattern : Step → TriplePattern ℕ
step_pattern t = record { s = place_term t.subject; p = place_term t.predicate; o = place_term t.object }

-- a label as a further variable, at its place in a map
abbrev pub placed : ℕ → PatternTerm ℕ → PatternTerm ℕ
placed w (variable v) = variable v
placed w (label l) = variable (w + l)
placed w (constant n) = constant n

-- the same for each position of a triple pattern
abbrev pub placed_pattern : ℕ → TriplePattern ℕ → TriplePattern ℕ
placed_pattern w t = record { s = placed w t.s; p = placed w t.p; o = placed w t.o }

-- the solutions of w variables that extend the map m over the steps
abbrev pub solutions_from : ℕ → List (Triple ℕ) → List Step → Solution ℕ → List (Solution ℕ)
solutions_from w G steps m = map (take w) (solve nat_eq 0 (map step_pattern steps) G m)

-- the solutions that take the first step to one of the triples S
abbrev pub solutions_over :
    ℕ → List (Triple ℕ) → Step → List Step → Solution ℕ → List (Triple ℕ) → List (Solution ℕ)
solutions_over w G step rest m S =
    map (take w) (flat_map (solve nat_eq 0 (map step_pattern rest) G)
    (filter_map (extend_by nat_eq 0 (step_pattern step) m) S))
