-- What the lists inside an index are. Only private clauses and the index's own invariant cite it.
use Rattle.std.specs.Prelude.{◌≡◌, ℕ, List, IsSorted, IsPermutation, nat_eq, Option, unwrap_or}
use Rattle.std.specs.List.{dedup}
use Rattle.std.specs.declared.cmp.Ordering.{Ordering}
use Rattle.algebra_model.specs.Bag.{IsWithoutRepeats}
use Rattle.dict_core.specs.declared.num_quad.NumQuad.{NumQuad}
use Rattle.dict_core.specs.Equality.{quad_eq}
use Rattle.quad_index.specs.declared.prefix.Prefix.{Prefix}
use Rattle.quad_index.specs.declared.prefix.Prefix.TheVariants.{G, Gs, Gsp, Gspo, Gp, Gpo, Go, Gos}
use Rattle.quad_index.specs.SortOrder.{by_g, by_gs, by_gsp, by_gspo, by_gp, by_gpo, by_gpos, by_go, by_gos, by_gosp}
use Rattle.quad_index.specs.Matching.{graph_names}

-- the places that a prefix compares
abbrev pub prefix_cmp : Prefix → NumQuad → NumQuad → Ordering
prefix_cmp G = by_g
prefix_cmp Gs = by_gs
prefix_cmp Gsp = by_gsp
prefix_cmp Gspo = by_gspo
prefix_cmp Gp = by_gp
prefix_cmp Gpo = by_gpo
prefix_cmp Go = by_go
prefix_cmp Gos = by_gos

-- the given numbers as a quad, with 0 where none is given
abbrev pub scan_key : Option ℕ → Option ℕ → Option ℕ → Option ℕ → NumQuad
scan_key g s p o = record { g = g; s = unwrap_or s 0; p = unwrap_or p 0; o = unwrap_or o 0 }

-- the first list is the set, the other two are it in their orders, and the graph names are those
-- of the first, each once
pub record IsIndexed (gspo gpos gosp : List NumQuad) (graphs : List ℕ) : Type 0 where
  pub distinct : IsWithoutRepeats quad_eq gspo
  pub sorted_gspo : IsSorted by_gspo gspo
  pub sorted_gpos : IsSorted by_gpos gpos
  pub sorted_gosp : IsSorted by_gosp gosp
  pub same_gpos : IsPermutation gspo gpos
  pub same_gosp : IsPermutation gspo gosp
  pub names : graphs ≡ dedup nat_eq (graph_names gspo)
