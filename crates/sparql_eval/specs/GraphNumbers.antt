-- Numbers of graphs. Only private clauses use this definition.
use Rattle.std.specs.Prelude.{◌≡◌, ℕ, ◌<◌, true, List, length}
use Rattle.std.specs.List.{list_any}
use Rattle.rdf_core.specs.declared.term.Term.{Term}
use Rattle.rdf_core.specs.Equality.{term_eq}
use Rattle.algebra_model.specs.Dataset.{names}
use Rattle.dict_core.specs.Dict.{term_at}
use Rattle.dict_core.specs.NumQuad.{quads_at}
use Rattle.dict_core.specs.declared.num_quad.NumQuad.{NumQuad}

-- some graph has that name, and n is its number
abbrev pub IsGraphNumber : List Term → List NumQuad → Term → ℕ → Type 0
IsGraphNumber terms index name n = (list_any (term_eq name) (names (quads_at terms index)) ≡ true) × (n < length terms) × (term_at terms n ≡ name)
