use Rattle.std.proofs.Common.{◌≡◌, map, take}
use Rattle.std.specs.List.{All}
use Rattle.cluster_parts.specs.Numbered.{IsHashed, quad_there}
use Rattle.cluster_parts.proofs.hashed_places.places_of.Given as goal

abbrev pub invariant-loop-place : goal.invariant-loop-place
invariant-loop-place l = record {
  hashed : All (IsHashed l.terms l.quads) l.places.items;
  all : map (quad_there l.quads) l.places.items ≡ take l.place l.quads;
}
