-- The constants of a pattern, looked up in a dictionary. Only private clauses use these
-- definitions.
use Rattle.std.specs.Prelude.{◌≡◌, ℕ, ◌<◌, true, List, length, map, Contains}
use Rattle.std.specs.List.{list_any}
use Rattle.rdf_core.specs.declared.term.Term.{Term}
use Rattle.rdf_core.specs.Equality.{term_eq}
use Rattle.algebra_model.specs.Bgp.{PatternTerm, TriplePattern}
use Rattle.algebra_model.specs.Renaming.{Each, EachConstant, EachOfPattern, read_pattern_term, read_pattern}
use Rattle.algebra_model.proofs.WithinLaws.{is_the_term, has_term}
use Rattle.dict_core.specs.Dict.{term_at}

-- the two are the same place of a pattern, with a number in place of each constant
abbrev pub IsPatternTermOf : List Term → PatternTerm Term → PatternTerm ℕ → Type 0
IsPatternTermOf terms p n = (read_pattern_term (term_at terms) n ≡ p) × EachConstant (λ x. x < length terms) n

-- the same of triple patterns
abbrev pub IsPatternOf : List Term → TriplePattern Term → TriplePattern ℕ → Type 0
IsPatternOf terms t n = (read_pattern (term_at terms) n ≡ t) × EachOfPattern (λ x. x < length terms) n

-- the same of lists of triple patterns
abbrev pub ArePatternsOf : List Term → List (TriplePattern Term) → List (TriplePattern ℕ) → Type 0
ArePatternsOf terms P N = (map (read_pattern (term_at terms)) N ≡ P) × Each (EachOfPattern (λ x. x < length terms)) N

-- the place holds a constant that the dictionary lacks
abbrev pub LacksTerm : List Term → PatternTerm Term → Type 0
LacksTerm terms p = (c : Term) × (¬ (Contains terms c)) × (is_the_term term_eq c p ≡ true)

-- the dictionary lacks a constant of the triple pattern
abbrev pub LacksTriple : List Term → TriplePattern Term → Type 0
LacksTriple terms t = (c : Term) × (¬ (Contains terms c)) × (has_term term_eq c t ≡ true)

-- the dictionary lacks a constant of one of the triple patterns
abbrev pub LacksSome : List Term → List (TriplePattern Term) → Type 0
LacksSome terms P = (c : Term) × (¬ (Contains terms c)) × (list_any (has_term term_eq c) P ≡ true)
