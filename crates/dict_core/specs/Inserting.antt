-- What single insertions do, one after the other. Only private clauses use these definitions.
use Rattle.std.specs.Prelude.{ℕ, List, [], ◌∷◌}
use Rattle.std.specs.List.{position_or_len}
use Rattle.indexmap.specs.IndexSet.{insert_key}
use Rattle.rdf_core.specs.declared.term.Term.{Term}
use Rattle.rdf_core.specs.Equality.{term_eq}

-- the place of each term, as they are inserted in turn
abbrev pub places_in : List Term → List Term → List ℕ
places_in dict [] = []
places_in dict (t ∷ ts) = position_or_len (term_eq t) dict ∷ places_in (insert_key term_eq dict t) ts
