-- The counts of an index that is not built.
use Rattle.std.specs.Prelude.{◌≡◌, ℕ, suc, ◌||◌, cond, List, [], ◌∷◌, length, nat_eq, IsPermutation}
use Rattle.algebra_model.specs.Bag.{without_repeats}
use Rattle.dict_core.specs.declared.num_quad.NumQuad.{NumQuad}
use Rattle.dict_core.specs.Equality.{quad_eq}
use Rattle.quad_index.specs.declared.counting.IndexCounts.{IndexCounts}
use Rattle.quad_index.specs.Matching.{graph_names}
use Rattle.quad_index.specs.Packed.{graph_key_of}
use Rattle.quad_index.specs.Parts.{count_in_part, parts, sum_below}

-- An index of the quads, in which each quad is once, has this number of quads and of graph names.
pub record IsCountOf (quads : List NumQuad) (counts : IndexCounts) : Type 0 where
  pub index : List NumQuad
  pub each_once : IsPermutation (without_repeats quad_eq quads) index
  pub quad_count : counts.quads ≡ length index
  pub graph_count : counts.graphs ≡ length (without_repeats nat_eq (graph_names index))

-- the counts of the parts add up to those of the index
abbrev pub PartsCountTheQuads : Type 0
PartsCountTheQuads =
    (quads : List NumQuad) (counts : IndexCounts)
    → counts.quads ≡ sum_below (λ part. count_in_part part quads) parts
    → counts.graphs ≡ length (without_repeats nat_eq (graph_names quads))
    → IsCountOf quads counts

-- A word that only a private clause cites.

-- the number of graph names in the keys that differ from the last name before them; no name is 0
abbrev pub names_after : ℕ → List ℕ → ℕ
names_after last [] = 0
names_after last (key ∷ keys) =
    cond (nat_eq (graph_key_of key) 0 || nat_eq (graph_key_of key) last) (names_after last keys) (suc (names_after (graph_key_of key) keys))
