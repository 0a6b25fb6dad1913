-- The slices that a filter wants are those of the quads that it keeps.
use Rattle.std.proofs.Common.{◌≡◌, ℕ, ◌&&◌, ◌||◌, List, [], ◌∷◌, Option, Some, None, refl, ap, ◌∙◌}
use Rattle.std.specs.List.{list_any}
use Rattle.std.specs.Option.{option_map}
use Rattle.rdf_core.specs.declared.term.Term.{Term}
use Rattle.rdf_core.specs.QuadParts.{QuadParts}
use Rattle.rdf_core.specs.Serialization.{serialization}
use Rattle.nquads_core.specs.declared.slices.RawStatement.{RawStatement}
use Rattle.quad_filter.specs.declared.filter.Wanted.{Wanted}
use Rattle.quad_filter.specs.declared.filter.Wanted.TheVariants.{Any, OneOf}
use Rattle.quad_filter.specs.declared.filter.WantedGraph.{WantedGraph}
use Rattle.quad_filter.specs.declared.filter.WantedGraph.TheVariants.{Default, Named}
use Rattle.quad_filter.specs.declared.filter.Shape.{Shape}
use Rattle.quad_filter.specs.declared.filter.QuadFilter.{QuadFilter}
use Rattle.quad_filter.specs.declared.filter.QuadFilter.TheVariants.{All, AnyOf}
use Rattle.quad_filter.specs.Filter.{has_shape, is_wanted, is_wanted_graph, keeps}
use Rattle.quad_filter.specs.Slices.{HasSlices, has_texts, is_wanted_label, is_wanted_text, wants}

wanted_form : (wanted : Wanted) (t : Term) → is_wanted_text wanted (serialization t) ≡ is_wanted wanted t
wanted_form Any t = refl
wanted_form (OneOf texts) t = refl

wanted_slice : (wanted : Wanted) (text : List ℕ) (t : Term) → text ≡ serialization t → is_wanted_text wanted text ≡ is_wanted wanted t
wanted_slice wanted text t h = ap (is_wanted_text wanted) h ∙ wanted_form wanted t

wanted_name : (graph : WantedGraph) (name : Option Term) → is_wanted_label graph (option_map serialization name) ≡ is_wanted_graph graph name
wanted_name Default None = refl
wanted_name Default (Some name) = refl
wanted_name (Named names) None = refl
wanted_name (Named names) (Some name) = wanted_form names name

wanted_label : (graph : WantedGraph) (label : Option (List ℕ)) (name : Option Term) → label ≡ option_map serialization name
    → is_wanted_label graph label ≡ is_wanted_graph graph name
wanted_label graph label name h = ap (is_wanted_label graph) h ∙ wanted_name graph name

module _ (raw : RawStatement) (q : QuadParts) (h : HasSlices raw q) where
  texts_of_shape : (shape : Shape) → has_texts raw shape ≡ has_shape q shape
  texts_of_shape shape =
      let graph = wanted_label shape.graph _ q.g h.graph in
      let predicate = wanted_slice shape.predicate raw.predicate.now q.p h.predicate in
      let subject = wanted_slice shape.subject raw.subject.now q.s h.subject in
      let object = wanted_slice shape.object raw.object.now q.o h.object in
      λ i. graph i && (predicate i && (subject i && object i))

  texts_of_shapes : (shapes : List Shape) → list_any (has_texts raw) shapes ≡ list_any (has_shape q) shapes
  texts_of_shapes [] = refl
  texts_of_shapes (shape ∷ shapes) = λ i. texts_of_shape shape i || texts_of_shapes shapes i

  pub wants_keeps : (filter : QuadFilter) → wants filter raw ≡ keeps filter q
  wants_keeps All = refl
  wants_keeps (AnyOf shapes) = texts_of_shapes shapes.items
