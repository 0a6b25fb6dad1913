-- Triples and triple patterns of numbers, as the algebra defines them (SPARQL 1.1 Query Language,
-- section 18.1.5; RDF 1.1 Concepts, section 4).
use Rattle.std.specs.Prelude.{ℕ, Bool, Option, List, map, filter, nat_eq}
use Rattle.std.specs.Option.{option_eq}
use Rattle.dict_core.specs.declared.num_quad.NumQuad.{NumQuad}
use Rattle.algebra_model.specs.Bgp.{Triple, PatternTerm, TriplePattern, variable, label, constant}
use Rattle.row_pattern.specs.declared.numbered.NumberedTriple.{NumberedTriple}
use Rattle.row_pattern.specs.declared.numbered.PatternNumber.{PatternNumber}
use Rattle.row_pattern.specs.declared.numbered.PatternNumber.TheVariants.{Variable, Label, Term}

-- one position of a triple pattern
abbrev pub pattern_term_of : PatternNumber → PatternTerm ℕ
pattern_term_of (Variable v) = variable v
pattern_term_of (Label l) = label l
pattern_term_of (Term n) = constant n

-- the triple pattern of the algebra for a triple pattern of the code
abbrev pub pattern_of : NumberedTriple → TriplePattern ℕ
pattern_of t = record {
  s = pattern_term_of t.subject;
  p = pattern_term_of t.predicate;
  o = pattern_term_of t.object;
}

-- the quad without its graph name
abbrev pub triple_of : NumQuad → Triple ℕ
triple_of q = record { s = q.s; p = q.p; o = q.o }

-- the quad is in the graph g, or in the default graph if g is None
abbrev pub is_of : Option ℕ → NumQuad → Bool
is_of g q = option_eq nat_eq q.g g

-- the triples of one graph
abbrev pub triples_of : Option ℕ → List NumQuad → List (Triple ℕ)
triples_of g quads = map triple_of (filter (is_of g) quads)
