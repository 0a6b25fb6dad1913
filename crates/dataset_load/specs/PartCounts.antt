-- The counts of quads in parts. Only private clauses use these definitions.
use Rattle.std.specs.Prelude.{◌≡◌, ℕ, zero, suc, ◌+◌, ◌<◌, List, length, nat_eq, slice_index_or}
use Rattle.algebra_model.specs.Bag.{without_repeats}
use Rattle.dict_core.specs.declared.num_quad.NumQuad.{NumQuad}
use Rattle.quad_index.specs.Matching.{graph_names}
use Rattle.quad_index.specs.Parts.{count_in_part, parts}

-- the number of distinct graph names, and then those of the distinct quads of each part
abbrev pub count_at : List NumQuad → ℕ → ℕ
count_at quads zero = length (without_repeats nat_eq (graph_names quads))
count_at quads (suc part) = count_in_part part quads

-- the counts of the graph names and of all parts
pub record AreCounts (quads : List NumQuad) (counts : List ℕ) : Type 0 where
  pub count : length counts ≡ parts + 1
  pub each : (i : ℕ) → i < parts + 1 → slice_index_or counts i 0 ≡ count_at quads i
