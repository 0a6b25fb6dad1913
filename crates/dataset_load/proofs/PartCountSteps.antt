-- The counts of the parts, added up.
use Rattle.std.proofs.Common.{◌≡◌, ℕ, suc, ◌+◌, ◌<◌, ◌≤◌, List, length, slice_index_or, ap, sym, ◌∙◌, subst, arith}
use Rattle.dict_core.specs.declared.num_quad.NumQuad.{NumQuad}
use Rattle.quad_index.specs.Parts.{count_in_part, parts, sum_below}
use Rattle.quad_index.proofs.PartLaws.{parts_within, sum_more}
use Rattle.dataset_load.specs.PartCounts.{AreCounts, count_at}

-- the count at the place after that of the graph names
part_count : (quads : List NumQuad) (part : ℕ) → count_at quads (part + 1) ≡ count_in_part part quads
part_count quads part = let next : part + 1 ≡ suc part = omega arith in ap (count_at quads) next

module _ (quads : List NumQuad) (counts : List ℕ) (are : AreCounts quads counts) where
  -- the count of one more part is added
  pub part_added : (part sum more : ℕ) → part < parts → sum ≡ sum_below (λ n. count_in_part n quads) part → more ≡ sum + slice_index_or counts (part + 1) 0
      → more ≡ sum_below (λ n. count_in_part n quads) (part + 1)
  part_added part sum more low was added =
      let count = are.each (part + 1) (omega (arith, low)) in
      added ∙ (λ i. was i + (count ∙ part_count quads part) i) ∙ sym (sum_more (λ n. count_in_part n quads) part)

  -- the sum never exceeds the number of quads
  pub part_fits : (part sum : ℕ) → part < parts → sum ≡ sum_below (λ n. count_in_part n quads) part → sum + slice_index_or counts (part + 1) 0 ≤ length quads
  part_fits part sum low was =
      let more = part_added part sum (sum + slice_index_or counts (part + 1) 0) low was (λ i. sum + slice_index_or counts (part + 1) 0) in
      subst (λ n. n ≤ length quads) (sym more) (parts_within quads (part + 1) (omega (arith, low)))
