-- What contracts see of a store.
use Rattle.std.specs.Prelude.{ℕ, List, nat_eq}
use Rattle.rdf_core.specs.declared.term.Term.{Term}
use Rattle.algebra_model.specs.Bag.{without_repeats}
use Rattle.dict_core.specs.declared.num_quad.NumQuad.{NumQuad}
use Rattle.quad_index.specs.Matching.{graph_names}

-- the terms, each numbered by its place, and the quads of numbers
pub record StoreView : Type 0 where
  pub dict : List Term
  pub index : List NumQuad

-- the numbers of the graph names of these quads, each once
abbrev pub names_in : List NumQuad → List ℕ
names_in quads = without_repeats nat_eq (graph_names quads)
