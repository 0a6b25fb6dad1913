-- The orders of the lists of an index: by the graph name, where no name comes first, and
-- then by the other places one after the other, as the letters of the order's name say. A shorter
-- name compares fewer places.
use Rattle.std.specs.Ordering.{nat_cmp, ordering_then}
use Rattle.std.specs.Option.{option_cmp}
use Rattle.std.specs.declared.cmp.Ordering.{Ordering}
use Rattle.dict_core.specs.declared.num_quad.NumQuad.{NumQuad}
use Rattle.quad_index.specs.declared.sort_order.SortOrder.{SortOrder}
use Rattle.quad_index.specs.declared.sort_order.SortOrder.TheVariants.{Gspo, Gpos, Gosp}

-- graph name
abbrev pub by_g : NumQuad → NumQuad → Ordering
by_g a b = option_cmp nat_cmp a.g b.g

-- graph name, subject
abbrev pub by_gs : NumQuad → NumQuad → Ordering
by_gs a b = ordering_then (by_g a b) (nat_cmp a.s b.s)

-- graph name, subject, predicate
abbrev pub by_gsp : NumQuad → NumQuad → Ordering
by_gsp a b = ordering_then (by_gs a b) (nat_cmp a.p b.p)

-- graph name, subject, predicate, object
abbrev pub by_gspo : NumQuad → NumQuad → Ordering
by_gspo a b = ordering_then (by_gsp a b) (nat_cmp a.o b.o)

-- graph name, predicate
abbrev pub by_gp : NumQuad → NumQuad → Ordering
by_gp a b = ordering_then (by_g a b) (nat_cmp a.p b.p)

-- graph name, predicate, object
abbrev pub by_gpo : NumQuad → NumQuad → Ordering
by_gpo a b = ordering_then (by_gp a b) (nat_cmp a.o b.o)

-- graph name, predicate, object, subject
abbrev pub by_gpos : NumQuad → NumQuad → Ordering
by_gpos a b = ordering_then (by_gpo a b) (nat_cmp a.s b.s)

-- graph name, object
abbrev pub by_go : NumQuad → NumQuad → Ordering
by_go a b = ordering_then (by_g a b) (nat_cmp a.o b.o)

-- graph name, object, subject
abbrev pub by_gos : NumQuad → NumQuad → Ordering
by_gos a b = ordering_then (by_go a b) (nat_cmp a.s b.s)

-- graph name, object, subject, predicate
abbrev pub by_gosp : NumQuad → NumQuad → Ordering
by_gosp a b = ordering_then (by_gos a b) (nat_cmp a.p b.p)

-- the order of all four places
abbrev pub order_cmp : SortOrder → NumQuad → NumQuad → Ordering
order_cmp Gspo = by_gspo
order_cmp Gpos = by_gpos
order_cmp Gosp = by_gosp
