use Rattle.std.proofs.Common.{◌≡◌, ℕ, List, length, not}
use Rattle.algebra_model.specs.Keys.{is_keyed}
use Rattle.row_join.specs.Places.{group_of, has_key, places_below}
use Rattle.row_join.proofs.hashed_places.HashedPlaces.build.Given as goal

abbrev pub invariant-loop-place : goal.invariant-loop-place
invariant-loop-place l = record {
  keyed : (numbers : List ℕ) → group_of l.groups.list numbers ≡ places_below l.place (has_key l.key numbers) l.rows.rows;
  apart : l.apart.items ≡ places_below l.place (λ μ. not (is_keyed l.key μ)) l.rows.rows;
  wide : l.groups.width ≡ length l.key;
}
