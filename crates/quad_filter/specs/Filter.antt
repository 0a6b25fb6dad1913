-- Which quads a filter keeps (a choice of this project). The texts of a filter are N-Quads forms of terms.
use Rattle.std.specs.Prelude.{Bool, true, false, ◌&&◌, Option, Some, None}
use Rattle.std.specs.List.{list_any}
use Rattle.std.specs.Str.{bytes_eq}
use Rattle.rdf_core.specs.declared.term.Term.{Term}
use Rattle.rdf_core.specs.QuadParts.{QuadParts}
use Rattle.rdf_core.specs.Serialization.{serialization}
use Rattle.quad_filter.specs.declared.filter.Wanted.{Wanted}
use Rattle.quad_filter.specs.declared.filter.Wanted.TheVariants.{Any, OneOf}
use Rattle.quad_filter.specs.declared.filter.WantedGraph.{WantedGraph}
use Rattle.quad_filter.specs.declared.filter.WantedGraph.TheVariants.{Default, Named}
use Rattle.quad_filter.specs.declared.filter.Shape.{Shape}
use Rattle.quad_filter.specs.declared.filter.QuadFilter.{QuadFilter}
use Rattle.quad_filter.specs.declared.filter.QuadFilter.TheVariants.{All, AnyOf}

-- the term may be at this position
abbrev pub is_wanted : Wanted → Term → Bool
is_wanted Any t = true
is_wanted (OneOf texts) t = list_any (λ text. bytes_eq (serialization t) text.items) texts.items

-- a quad may be in the default graph, or in a graph of this name
abbrev pub is_wanted_graph : WantedGraph → Option Term → Bool
is_wanted_graph Default None = true
is_wanted_graph Default (Some name) = false
is_wanted_graph (Named names) None = false
is_wanted_graph (Named names) (Some name) = is_wanted names name

-- the quad has this shape
abbrev pub has_shape : QuadParts → Shape → Bool
has_shape q shape =
    is_wanted_graph shape.graph q.g && (is_wanted shape.predicate q.p && (is_wanted shape.subject q.s && is_wanted shape.object q.o))

-- the filter keeps the quad
abbrev pub keeps : QuadFilter → QuadParts → Bool
keeps All q = true
keeps (AnyOf shapes) q = list_any (has_shape q) shapes.items
