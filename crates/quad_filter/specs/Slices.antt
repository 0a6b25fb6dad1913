-- The slices of a statement that are the N-Quads forms of the terms of a quad (a choice of this project).
use Rattle.std.specs.Prelude.{◌≡◌, ℕ, Bool, true, false, ◌&&◌, List, Option, Some, None, option_copied}
use Rattle.std.specs.List.{list_any}
use Rattle.std.specs.Option.{option_map}
use Rattle.std.specs.Str.{bytes_eq}
use Rattle.rdf_core.specs.QuadParts.{QuadParts}
use Rattle.rdf_core.specs.Serialization.{serialization}
use Rattle.nquads_core.specs.declared.slices.RawStatement.{RawStatement}
use Rattle.quad_filter.specs.declared.filter.Wanted.{Wanted}
use Rattle.quad_filter.specs.declared.filter.Wanted.TheVariants.{Any, OneOf}
use Rattle.quad_filter.specs.declared.filter.WantedGraph.{WantedGraph}
use Rattle.quad_filter.specs.declared.filter.WantedGraph.TheVariants.{Default, Named}
use Rattle.quad_filter.specs.declared.filter.Shape.{Shape}
use Rattle.quad_filter.specs.declared.filter.QuadFilter.{QuadFilter}
use Rattle.quad_filter.specs.declared.filter.QuadFilter.TheVariants.{All, AnyOf}

-- each slice is the N-Quads form of the term of its place
pub record HasSlices (raw : RawStatement) (q : QuadParts) : Type 0 where
  pub subject : raw.subject.now ≡ serialization q.s
  pub predicate : raw.predicate.now ≡ serialization q.p
  pub object : raw.object.now ≡ serialization q.o
  pub graph : option_copied raw.graph ≡ option_map serialization q.g

-- Only private clauses use the definitions that follow.

-- the text may be at this position
abbrev pub is_wanted_text : Wanted → List ℕ → Bool
is_wanted_text Any text = true
is_wanted_text (OneOf texts) text = list_any (λ t. bytes_eq text t.items) texts.items

-- the graph label may be that of a quad
abbrev pub is_wanted_label : WantedGraph → Option (List ℕ) → Bool
is_wanted_label Default None = true
is_wanted_label Default (Some label) = false
is_wanted_label (Named names) None = false
is_wanted_label (Named names) (Some label) = is_wanted_text names label

-- the slices may be those of a quad with this shape
abbrev pub has_texts : RawStatement → Shape → Bool
has_texts raw shape =
    is_wanted_label shape.graph (option_copied raw.graph)
    && (is_wanted_text shape.predicate raw.predicate.now && (is_wanted_text shape.subject raw.subject.now && is_wanted_text shape.object raw.object.now))

-- the slices may be those of a quad that the filter keeps
abbrev pub wants : QuadFilter → RawStatement → Bool
wants All raw = true
wants (AnyOf shapes) raw = list_any (has_texts raw) shapes.items
