-- What the laws of this crate say: an index, read through the dictionary of its numbers, is the
-- dataset, a set of quads of terms (RDF 1.1 Concepts, section 4).
use Rattle.std.specs.Prelude.{ℕ, Bool, ◌&&◌, List, map, nat_eq, length, IsPermutation}
use Rattle.std.specs.Option.{option_eq}
use Rattle.rdf_core.specs.declared.term.Term.{Term}
use Rattle.rdf_core.specs.QuadParts.{QuadParts}
use Rattle.rdf_core.specs.Equality.{term_eq}
use Rattle.algebra_model.specs.Bag.{IsSameSet, without_repeats}
use Rattle.algebra_model.specs.Dataset.{names}
use Rattle.dict_core.specs.declared.num_quad.NumQuad.{NumQuad}
use Rattle.dict_core.specs.Dict.{term_at}
use Rattle.dict_core.specs.NumQuad.{quads_at, AreBelow}
use Rattle.dict_core.specs.Numbered.{IsNumbered}
use Rattle.dict_core.specs.Equality.{quad_eq}
use Rattle.quad_index.specs.Matching.{graph_names}

-- two quads have the same terms
abbrev pub same_parts : QuadParts → QuadParts → Bool
same_parts a b = option_eq term_eq a.g b.g && (term_eq a.s b.s && (term_eq a.p b.p && term_eq a.o b.o))

-- the quads of the index, read as quads of terms, are the quads, and each number in it is the number of a
-- term
abbrev pub IndexReadsTheQuads : Type 0
IndexReadsTheQuads =
    (quads : List QuadParts) (dict : List Term) (numbered index : List NumQuad)
    → IsNumbered quads dict numbered → IsPermutation (without_repeats quad_eq numbered) index
    → IsSameSet (quads_at dict index) quads × AreBelow (length dict) index

-- it has each of them once, so that its length is the count of the distinct quads
abbrev pub IndexCountsTheQuads : Type 0
IndexCountsTheQuads =
    (quads : List QuadParts) (dict : List Term) (numbered index : List NumQuad)
    → IsNumbered quads dict numbered → IsPermutation (without_repeats quad_eq numbered) index
    → IsPermutation (without_repeats same_parts quads) (quads_at dict index)

-- its graph names, read as terms, are the names of the graphs of the dataset, each once
abbrev pub IndexNamesTheGraphs : Type 0
IndexNamesTheGraphs =
    (quads : List QuadParts) (dict : List Term) (numbered index : List NumQuad) (graphs : List ℕ)
    → IsNumbered quads dict numbered → IsPermutation (without_repeats quad_eq numbered) index
    → IsPermutation (without_repeats nat_eq (graph_names index)) graphs
    → IsPermutation (names (quads_at dict index)) (map (term_at dict) graphs)
