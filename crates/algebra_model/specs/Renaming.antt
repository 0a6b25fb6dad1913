-- Solutions, patterns and triples of one type of terms, read as those of another. Only laws and
-- proofs use these definitions; the definitions of the algebra do not.
use Rattle.std.specs.Prelude.{List, [], ◌∷◌, None, Some, map, option_map}
use Rattle.algebra_model.specs.Solution.{Solution}
use Rattle.algebra_model.specs.Bgp.{Triple, PatternTerm, TriplePattern, variable, label, constant}

-- P is true of each element
abbrev pub Each : {X : Type 0} → (X → Type 0) → List X → Type 0
Each P [] = Unit {0}
Each P (x ∷ xs) = P x × Each P xs

-- P is true of each term that the solution binds
abbrev pub EachBound : {A : Type 0} → (A → Type 0) → Solution A → Type 0
EachBound P [] = Unit {0}
EachBound P (None ∷ μ) = EachBound P μ
EachBound P (Some x ∷ μ) = P x × EachBound P μ

-- P is true of each term in the triple pattern
abbrev pub EachConstant : {A : Type 0} → (A → Type 0) → PatternTerm A → Type 0
EachConstant P (variable v) = Unit {0}
EachConstant P (label l) = Unit {0}
EachConstant P (constant c) = P c

-- P is true of each term of the triple
abbrev pub EachOfTriple : {A : Type 0} → (A → Type 0) → Triple A → Type 0
EachOfTriple P g = P g.s × P g.p × P g.o

-- P is true of each term that occurs in the triple pattern
abbrev pub EachOfPattern : {A : Type 0} → (A → Type 0) → TriplePattern A → Type 0
EachOfPattern P t = EachOfTriple (EachConstant P) t

-- the solution with f applied to each term
abbrev pub read_row : {A B : Type 0} → (A → B) → Solution A → Solution B
read_row f μ = map (option_map f) μ

-- the position with f applied to its term, if it has one
abbrev pub read_pattern_term : {A B : Type 0} → (A → B) → PatternTerm A → PatternTerm B
read_pattern_term f (variable v) = variable v
read_pattern_term f (label l) = label l
read_pattern_term f (constant c) = constant (f c)

-- the triple with f applied to each term
abbrev pub read_triple : {A B : Type 0} → (A → B) → Triple A → Triple B
read_triple f t = record { s = f t.s; p = f t.p; o = f t.o }

-- the triple pattern with f applied to each term
abbrev pub read_pattern : {A B : Type 0} → (A → B) → TriplePattern A → TriplePattern B
read_pattern f t = read_triple (read_pattern_term f) t
