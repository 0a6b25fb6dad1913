-- The law of this crate: the rows of a pattern of numbers, read through a dictionary, are the
-- solutions of the pattern of terms. They are solutions over the graph of the dataset that the
-- index represents (SPARQL 1.1 Query Language, section 18.3; RDF 1.1 Concepts, section 4).
use Rattle.std.specs.Prelude.{ℕ, ◌+◌, ◌<◌, List, Option, map, length, nat_eq}
use Rattle.std.specs.Option.{option_map, ForSome}
use Rattle.rdf_core.specs.declared.term.Term.{Term}
use Rattle.rdf_core.specs.Equality.{term_eq}
use Rattle.algebra_model.specs.Bag.{IsSameBag, IsWithoutRepeats}
use Rattle.algebra_model.specs.Solution.{Solution}
use Rattle.algebra_model.specs.Bgp.{TriplePattern, bgp}
use Rattle.algebra_model.specs.Dataset.{graph}
use Rattle.algebra_model.specs.Laws.{IsReading, AreInRange, read}
use Rattle.algebra_model.specs.Renaming.{Each, EachOfPattern, read_pattern}
use Rattle.algebra_model.specs.Solve as solve
use Rattle.dict_core.specs.declared.num_quad.NumQuad.{NumQuad}
use Rattle.dict_core.specs.Dict.{term_at}
use Rattle.dict_core.specs.NumQuad.{quads_at, AreBelow}
use Rattle.dict_core.specs.Equality.{quad_eq}
use Rattle.row_pattern.specs.Numbered.{triples_of}

-- The terms of the dictionary are distinct. The numbers of the index, of the graph name and of the
-- pattern's terms are numbers of its terms.
abbrev pub RowsReadAsSolutions : Type 0
RowsReadAsSolutions =
    (dict : List Term) (index : List NumQuad) (g : Option ℕ)
    → let n = length dict in let f = term_at dict in
    IsReading n f
    → IsWithoutRepeats quad_eq index → AreBelow n index → ForSome g (λ x. x < n)
    → (w l : ℕ) (P : List (TriplePattern ℕ))
    → solve.AreBelow w (w + l) P → Each (EachOfPattern (λ x. x < n)) P
    → (rows : List (Solution ℕ))
    → IsSameBag rows (bgp nat_eq w l P (triples_of g index))
    → IsSameBag (read f rows)
    (bgp term_eq w l (map (read_pattern f) P) (graph (quads_at dict index) (option_map f g)))
    × AreInRange n rows
