-- Quads of numbers, read through a dictionary (RDF 1.1 Concepts, section 4, for what a quad is).
use Rattle.std.specs.Prelude.{ℕ, ◌<◌, List, map}
use Rattle.std.specs.List.{All}
use Rattle.std.specs.Option.{option_map, ForSome}
use Rattle.rdf_core.specs.declared.term.Term.{Term}
use Rattle.rdf_core.specs.QuadParts.{QuadParts}
use Rattle.dict_core.specs.declared.num_quad.NumQuad.{NumQuad}
use Rattle.dict_core.specs.Dict.{term_at}

-- the quad of the terms that have these numbers
abbrev pub quad_at : List Term → NumQuad → QuadParts
quad_at dict q = record {
  s = term_at dict q.s;
  p = term_at dict q.p;
  o = term_at dict q.o;
  g = option_map (term_at dict) q.g;
}

-- the same for a list of quads
abbrev pub quads_at : List Term → List NumQuad → List QuadParts
quads_at dict quads = map (quad_at dict) quads

-- each number is that of one of the first n terms
abbrev pub IsBelow : ℕ → NumQuad → Type 0
IsBelow n q = (q.s < n) × (q.p < n) × (q.o < n) × ForSome q.g (λ g. g < n)

-- the same for a list of quads
abbrev pub AreBelow : ℕ → List NumQuad → Type 0
AreBelow n quads = All (IsBelow n) quads
