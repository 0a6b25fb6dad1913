-- The terms of a document in the order in which they first appear.
use Rattle.std.specs.Prelude.{Bool, not, List, [], ◌∷◌, filter}
use Rattle.std.specs.List.{flat_map}
use Rattle.std.specs.Option.{option_to_list}
use Rattle.rdf_core.specs.declared.term.Term.{Term}
use Rattle.rdf_core.specs.QuadParts.{QuadParts}
use Rattle.rdf_core.specs.Equality.{term_eq}

-- within a quad: subject, predicate, object, graph name; a datatype is no term of its own
abbrev pub terms_of_quad : QuadParts → List Term
terms_of_quad q = q.s ∷ q.p ∷ q.o ∷ option_to_list q.g

-- the terms of all quads, with repeats
abbrev pub terms_of : List QuadParts → List Term
terms_of quads = flat_map terms_of_quad quads

-- another term than t
abbrev pub differs_from : Term → Term → Bool
differs_from t u = not (term_eq t u)

-- each term once, where it first appears
abbrev pub first_appearances : List Term → List Term
first_appearances [] = []
first_appearances (t ∷ ts) = t ∷ filter (differs_from t) (first_appearances ts)
