-- The orders of quads are orders, a list in one of them is in each of its beginnings, and quads that
-- an order does not distinguish agree on its places.
use Rattle.std.proofs.Common.{◌≡◌, ℕ, ◌<◌, Bool, true, false, cond, ◌&&◌, Option, None, Some, List, nat_eq, nat_lt, eqb-true, ltb-true, IsSorted, refl, sym, ap, ◌∙◌, true≢false, unwrap_or, arith}
use Rattle.std.specs.Option.{option_cmp, option_eq}
use Rattle.std.specs.Ordering.{is_eq, is_lt, nat_cmp, ordering_then, eq_by_cmp}
use Rattle.std.specs.declared.cmp.Ordering.{Ordering}
use Rattle.std.specs.declared.cmp.Ordering.TheVariants.{Less, Equal, Greater}
use Rattle.std.specs.Cmp.{IsTotalOrder, both_ways, tied_itself}
use Rattle.std.specs.Cmp.Lexicographic.{options_total}
use Rattle.std.proofs.lemmas.Cmp.{then_total, on_total, nat_cmp_total}
use Rattle.dict_core.specs.declared.num_quad.NumQuad.{NumQuad}
use Rattle.dict_core.proofs.NumQuadLaws.{quad_eq, quad_decides}
use Rattle.quad_index.specs.declared.prefix.Prefix.{Prefix}
use Rattle.quad_index.specs.declared.prefix.Prefix.TheVariants.{G, Gs, Gsp, Gspo as AllPlaces, Gp, Gpo, Go, Gos}
use Rattle.quad_index.specs.declared.sort_order.SortOrder.{SortOrder}
use Rattle.quad_index.specs.declared.sort_order.SortOrder.TheVariants.{Gspo, Gpos, Gosp}
use Rattle.quad_index.specs.SortOrder.{by_g, by_gs, by_gsp, by_gspo, by_gp, by_gpo, by_gpos, by_go, by_gos, by_gosp, order_cmp}
use Rattle.quad_index.specs.Matching.{is_at, agrees}
use Rattle.quad_index.specs.Indexed.{prefix_cmp, scan_key}

-- ---- orders

pub total_g : IsTotalOrder by_g
total_g = on_total (λ (q : NumQuad). q.g) (options_total nat_cmp_total)

total_s : IsTotalOrder (λ (a b : NumQuad). nat_cmp a.s b.s)
total_s = on_total (λ (q : NumQuad). q.s) nat_cmp_total

total_p : IsTotalOrder (λ (a b : NumQuad). nat_cmp a.p b.p)
total_p = on_total (λ (q : NumQuad). q.p) nat_cmp_total

total_o : IsTotalOrder (λ (a b : NumQuad). nat_cmp a.o b.o)
total_o = on_total (λ (q : NumQuad). q.o) nat_cmp_total

pub total_gspo : IsTotalOrder by_gspo
total_gspo = then_total (then_total (then_total total_g total_s) total_p) total_o

pub total_gpos : IsTotalOrder by_gpos
total_gpos = then_total (then_total (then_total total_g total_p) total_o) total_s

pub total_gosp : IsTotalOrder by_gosp
total_gosp = then_total (then_total (then_total total_g total_o) total_s) total_p

pub prefix_total : (by : Prefix) → IsTotalOrder (prefix_cmp by)
prefix_total G = total_g
prefix_total Gs = then_total total_g total_s
prefix_total Gsp = then_total (then_total total_g total_s) total_p
prefix_total AllPlaces = total_gspo
prefix_total Gp = then_total total_g total_p
prefix_total Gpo = then_total (then_total total_g total_p) total_o
prefix_total Go = then_total total_g total_o
prefix_total Gos = then_total (then_total total_g total_o) total_s

-- ---- beginnings

front_not : (r s : Ordering) → is_lt (ordering_then r s) ≡ false → is_lt r ≡ false
front_not Less s h = h
front_not Equal s h = refl
front_not Greater s h = refl

sorted_front : (R S : NumQuad → NumQuad → Ordering) (xs : List NumQuad) → IsSorted (λ a b. ordering_then (R a b) (S a b)) xs → IsSorted R xs
sorted_front R S xs h = λ k d low high. front_not _ _ (h k d low high)

pub sorted_gsp : (xs : List NumQuad) → IsSorted by_gspo xs → IsSorted by_gsp xs
sorted_gsp xs h = sorted_front by_gsp (λ a b. nat_cmp a.o b.o) xs h

pub sorted_gs : (xs : List NumQuad) → IsSorted by_gspo xs → IsSorted by_gs xs
sorted_gs xs h = sorted_front by_gs (λ a b. nat_cmp a.p b.p) xs (sorted_gsp xs h)

pub sorted_g : (xs : List NumQuad) → IsSorted by_gspo xs → IsSorted by_g xs
sorted_g xs h = sorted_front by_g (λ a b. nat_cmp a.s b.s) xs (sorted_gs xs h)

pub sorted_gpo : (xs : List NumQuad) → IsSorted by_gpos xs → IsSorted by_gpo xs
sorted_gpo xs h = sorted_front by_gpo (λ a b. nat_cmp a.s b.s) xs h

pub sorted_gp : (xs : List NumQuad) → IsSorted by_gpos xs → IsSorted by_gp xs
sorted_gp xs h = sorted_front by_gp (λ a b. nat_cmp a.o b.o) xs (sorted_gpo xs h)

pub sorted_gos : (xs : List NumQuad) → IsSorted by_gosp xs → IsSorted by_gos xs
sorted_gos xs h = sorted_front by_gos (λ a b. nat_cmp a.p b.p) xs h

pub sorted_go : (xs : List NumQuad) → IsSorted by_gosp xs → IsSorted by_go xs
sorted_go xs h = sorted_front by_go (λ a b. nat_cmp a.s b.s) xs (sorted_gos xs h)

pub sorted_by_g : (order : SortOrder) (xs : List NumQuad) → IsSorted (order_cmp order) xs → IsSorted by_g xs
sorted_by_g Gspo xs h = sorted_g xs h
sorted_by_g Gpos xs h = sorted_front by_g (λ a b. nat_cmp a.p b.p) xs (sorted_gp xs h)
sorted_by_g Gosp xs h = sorted_front by_g (λ a b. nat_cmp a.o b.o) xs (sorted_go xs h)

-- ---- agreement

pub nat_ties : (n m : ℕ) → is_eq (nat_cmp n m) ≡ nat_eq n m
nat_ties n m = by (nat_lt n m) (nat_eq n m) refl refl
  where
    by : (a b : Bool) → nat_lt n m ≡ a → nat_eq n m ≡ b → is_eq (cond a Less (cond b Equal Greater)) ≡ b
    by true true p q =
        let below : n < m = ltb-true n m p in
        let level : n ≡ m = eqb-true n m q in
        absurd (omega arith)
    by true false p q = refl
    by false true p q = refl
    by false false p q = refl

graph_ties : (a b : Option ℕ) → is_eq (option_cmp nat_cmp a b) ≡ option_eq nat_eq a b
graph_ties None None = refl
graph_ties None (Some m) = refl
graph_ties (Some n) None = refl
graph_ties (Some n) (Some m) = nat_ties n m

then_ties : (r s : Ordering) → is_eq (ordering_then r s) ≡ (is_eq r && is_eq s)
then_ties Less s = refl
then_ties Equal s = refl
then_ties Greater s = refl

both : (r s : Ordering) (a b : Bool) → is_eq r ≡ a → is_eq s ≡ b → is_eq (ordering_then r s) ≡ (a && b)
both r s a b p q = then_ties r s ∙ (λ i. p i && q i)

given_at : (s : Option ℕ) (m n : ℕ) → s ≡ Some m → nat_eq n (unwrap_or s 0) ≡ is_at s n
given_at None m n e = cc
given_at (Some k) m n e = refl

not_given : (s : Option ℕ) (n : ℕ) → s ≡ None → true ≡ is_at s n
not_given None n e = refl
not_given (Some k) n e = cc

-- ---- what a scan compares is what it is to agree on

and_true : (a : Bool) → a ≡ (a && true)
and_true true = refl
and_true false = refl

and_assoc : (a b c : Bool) → ((a && b) && c) ≡ (a && (b && c))
and_assoc true b c = refl
and_assoc false b c = refl

and_comm : (a b : Bool) → (a && b) ≡ (b && a)
and_comm true true = refl
and_comm true false = refl
and_comm false true = refl
and_comm false false = refl

module _ (g s p o : Option ℕ) (q : NumQuad) where
  abbrev here : Bool
  here = option_eq nat_eq q.g g

  ties_g : is_eq (by_g q (scan_key g s p o)) ≡ option_eq nat_eq q.g g
  ties_g = graph_ties q.g g

  ties_s : (m : ℕ) → s ≡ Some m → is_eq (nat_cmp q.s (unwrap_or s 0)) ≡ is_at s q.s
  ties_s m e = nat_ties q.s (unwrap_or s 0) ∙ given_at s m q.s e

  ties_p : (m : ℕ) → p ≡ Some m → is_eq (nat_cmp q.p (unwrap_or p 0)) ≡ is_at p q.p
  ties_p m e = nat_ties q.p (unwrap_or p 0) ∙ given_at p m q.p e

  ties_o : (m : ℕ) → o ≡ Some m → is_eq (nat_cmp q.o (unwrap_or o 0)) ≡ is_at o q.o
  ties_o m e = nat_ties q.o (unwrap_or o 0) ∙ given_at o m q.o e

  pub agrees_g : s ≡ None → p ≡ None → o ≡ None → is_eq (by_g q (scan_key g s p o)) ≡ agrees g s p o q
  agrees_g es ep eo =
      ties_g ∙ and_true here ∙ (λ i. here && (not_given s q.s es i && (not_given p q.p ep i && not_given o q.o eo i)))

  pub agrees_gs : (m : ℕ) → s ≡ Some m → p ≡ None → o ≡ None → is_eq (by_gs q (scan_key g s p o)) ≡ agrees g s p o q
  agrees_gs m es ep eo =
      both _ _ _ _ ties_g (ties_s m es) ∙ ap (λ b. here && b) (and_true (is_at s q.s))
      ∙ (λ i. here && (is_at s q.s && (not_given p q.p ep i && not_given o q.o eo i)))

  pub agrees_gsp : (m n : ℕ) → s ≡ Some m → p ≡ Some n → o ≡ None → is_eq (by_gsp q (scan_key g s p o)) ≡ agrees g s p o q
  agrees_gsp m n es ep eo =
      both _ _ _ _ (both _ _ _ _ ties_g (ties_s m es)) (ties_p n ep) ∙ and_assoc here (is_at s q.s) (is_at p q.p)
      ∙ ap (λ b. here && (is_at s q.s && b)) (and_true (is_at p q.p))
      ∙ (λ i. here && (is_at s q.s && (is_at p q.p && not_given o q.o eo i)))

  pub agrees_gspo : (m n k : ℕ) → s ≡ Some m → p ≡ Some n → o ≡ Some k → is_eq (by_gspo q (scan_key g s p o)) ≡ agrees g s p o q
  agrees_gspo m n k es ep eo =
      both _ _ _ _ (both _ _ _ _ (both _ _ _ _ ties_g (ties_s m es)) (ties_p n ep)) (ties_o k eo)
      ∙ and_assoc (here && is_at s q.s) (is_at p q.p) (is_at o q.o)
      ∙ and_assoc here (is_at s q.s) (is_at p q.p && is_at o q.o)

  pub agrees_gp : (n : ℕ) → s ≡ None → p ≡ Some n → o ≡ None → is_eq (by_gp q (scan_key g s p o)) ≡ agrees g s p o q
  agrees_gp n es ep eo =
      both _ _ _ _ ties_g (ties_p n ep) ∙ ap (λ b. here && b) (and_true (is_at p q.p))
      ∙ (λ i. here && (not_given s q.s es i && (is_at p q.p && not_given o q.o eo i)))

  pub agrees_gpo : (n k : ℕ) → s ≡ None → p ≡ Some n → o ≡ Some k → is_eq (by_gpo q (scan_key g s p o)) ≡ agrees g s p o q
  agrees_gpo n k es ep eo =
      both _ _ _ _ (both _ _ _ _ ties_g (ties_p n ep)) (ties_o k eo) ∙ and_assoc here (is_at p q.p) (is_at o q.o)
      ∙ (λ i. here && (not_given s q.s es i && (is_at p q.p && is_at o q.o)))

  pub agrees_go : (k : ℕ) → s ≡ None → p ≡ None → o ≡ Some k → is_eq (by_go q (scan_key g s p o)) ≡ agrees g s p o q
  agrees_go k es ep eo =
      both _ _ _ _ ties_g (ties_o k eo) ∙ (λ i. here && (not_given s q.s es i && (not_given p q.p ep i && is_at o q.o)))

  pub agrees_gos : (m k : ℕ) → s ≡ Some m → p ≡ None → o ≡ Some k → is_eq (by_gos q (scan_key g s p o)) ≡ agrees g s p o q
  agrees_gos m k es ep eo =
      both _ _ _ _ (both _ _ _ _ ties_g (ties_o k eo)) (ties_s m es) ∙ and_assoc here (is_at o q.o) (is_at s q.s)
      ∙ ap (λ b. here && b) (and_comm (is_at o q.o) (is_at s q.s))
      ∙ (λ i. here && (is_at s q.s && (not_given p q.p ep i && is_at o q.o)))

-- ---- ties are equal quads

graph_same : (a b : Option ℕ) → option_eq nat_eq a b ≡ true → a ≡ b
graph_same None None h = refl
graph_same None (Some m) h = absurd (true≢false (sym h))
graph_same (Some n) None h = absurd (true≢false (sym h))
graph_same (Some n) (Some m) h = ap Some (eqb-true n m h)

left_true : (a b : Bool) → (a && b) ≡ true → a ≡ true
left_true true b h = refl
left_true false b h = h

right_true : (a b : Bool) → (a && b) ≡ true → b ≡ true
right_true true b h = h
right_true false b h = absurd (true≢false (sym h))

places_same : (x y : NumQuad) → option_eq nat_eq x.g y.g ≡ true → nat_eq x.s y.s ≡ true → nat_eq x.p y.p ≡ true → nat_eq x.o y.o ≡ true → x ≡ y
places_same x y g s p o = λ i. record {
  g = graph_same x.g y.g g i;
  s = eqb-true x.s y.s s i;
  p = eqb-true x.p y.p p i;
  o = eqb-true x.o y.o o i;
}

-- three places after the graph, in any order
module _ (x y : NumQuad) (a b c : Ordering) (A B C : Bool) (at_a : is_eq a ≡ A) (at_b : is_eq b ≡ B) (at_c : is_eq c ≡ C) where
  all_true : is_eq (ordering_then (ordering_then (ordering_then (by_g x y) a) b) c) ≡ true → (option_eq nat_eq x.g y.g ≡ true) × (A ≡ true) × (B ≡ true) × (C ≡ true)
  all_true h =
      let t : (((option_eq nat_eq x.g y.g && A) && B) && C) ≡ true = sym (both _ _ _ _ (both _ _ _ _ (both _ _ _ _ (graph_ties x.g y.g) at_a) at_b) at_c) ∙ h in
      let u = left_true _ _ t in
      let v = left_true _ _ u in
      (left_true _ _ v, right_true _ _ v, right_true _ _ u, right_true _ _ t)

same_gspo : (x y : NumQuad) → is_eq (by_gspo x y) ≡ true → x ≡ y
same_gspo x y h =
    let t = all_true x y _ _ _ _ _ _ (nat_ties x.s y.s) (nat_ties x.p y.p) (nat_ties x.o y.o) h in
    places_same x y t.0 t.1 t.2 t.3

same_gpos : (x y : NumQuad) → is_eq (by_gpos x y) ≡ true → x ≡ y
same_gpos x y h =
    let t = all_true x y _ _ _ _ _ _ (nat_ties x.p y.p) (nat_ties x.o y.o) (nat_ties x.s y.s) h in
    places_same x y t.0 t.3 t.1 t.2

same_gosp : (x y : NumQuad) → is_eq (by_gosp x y) ≡ true → x ≡ y
same_gosp x y h =
    let t = all_true x y _ _ _ _ _ _ (nat_ties x.o y.o) (nat_ties x.s y.s) (nat_ties x.p y.p) h in
    places_same x y t.0 t.2 t.3 t.1

ties_by : (R : NumQuad → NumQuad → Ordering) → IsTotalOrder R → ((x y : NumQuad) → is_eq (R x y) ≡ true → x ≡ y) → (x y : NumQuad) → quad_eq x y ≡ eq_by_cmp R x y
ties_by R o same x y = both_ways (quad_eq x y) (is_eq (R x y))
    (λ e. ap is_eq (ap (λ z. R x z) (sym ((quad_decides x y).0 e)) ∙ tied_itself o x))
    (λ e. (quad_decides x y).1 (same x y e))

pub order_total : (order : SortOrder) → IsTotalOrder (order_cmp order)
order_total Gspo = total_gspo
order_total Gpos = total_gpos
order_total Gosp = total_gosp

pub order_ties : (order : SortOrder) (x y : NumQuad) → quad_eq x y ≡ eq_by_cmp (order_cmp order) x y
order_ties Gspo = ties_by by_gspo total_gspo same_gspo
order_ties Gpos = ties_by by_gpos total_gpos same_gpos
order_ties Gosp = ties_by by_gosp total_gosp same_gosp
