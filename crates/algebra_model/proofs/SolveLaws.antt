-- A pattern solved triple pattern by triple pattern under a partial map, and how often it gives
-- each map.
use Rattle.std.proofs.Common.{◌≡◌, ℕ, zero, suc, ◌+◌, ◌<◌, Bool, true, false, cond, ◌&&◌, ◌||◌, List, [], ◌∷◌, length, get_or, Option, None, Some, Decides, count_by, sum_by, flat_map, filter_map, if◌then◌else◌, refl, sym, ap, ◌∙◌, subst, ⊎_elim, arith, length-set}
use Rattle.std.proofs.lemmas.Bool.{cases_Bool, false≢true, and_parts}
use Rattle.std.proofs.lemmas.List.Sums.{sum_by-cons}
use Rattle.std.specs.Option.{option_eq}
use Rattle.std.specs.List.{list_any, cons_option}
use Rattle.algebra_model.specs.Bag.{IsWithoutRepeats}
use Rattle.algebra_model.specs.Solution.{Solution, same_solution}
use Rattle.algebra_model.specs.Bgp.{Triple, PatternTerm, TriplePattern, variable, label, constant, is_at, mentions, occurs, image, takes_to, is_in, same_triple_by}
use Rattle.algebra_model.specs.Solve.{bind_by, bind_slot, bind_pattern_term, then_bind, extend_by, solve, IsBelow, IsTripleBelow, AreBelow}
use Rattle.algebra_model.proofs.BagLaws.{count_by-cons, count_by-append, count_by-yes, count_by-no}
use Rattle.algebra_model.proofs.TestLaws.{and_swap, and_false, and_itself, or_assoc, at, at-eqb, option_decides}

-- of distinct elements, at most one passes a test that passes only one element
pub count_by_one : {X : Type 0} (eq : X → X → Bool) (p : X → Bool) → ((x y : X) → p x ≡ true → p y ≡ true → eq x y ≡ true) → (xs : List X) → IsWithoutRepeats eq xs → count_by p xs ≡ cond (list_any p xs) 1 0
count_by_one eq p one [] h = refl
count_by_one {X} eq p one (x ∷ xs) h =
    ⊎_elim
    (λ (e : p x ≡ true). count_by-yes p x xs e ∙ ap (λ n. 1 + n) (count_by_one eq p one xs h.1 ∙ ap (λ (b : Bool). cond b 1 0) (none e xs h.0)) ∙ ap (λ (b : Bool). cond (b || list_any p xs) 1 0) (sym e))
    (λ (e : p x ≡ false). count_by-no p x xs e ∙ count_by_one eq p one xs h.1 ∙ ap (λ (b : Bool). cond (b || list_any p xs) 1 0) (sym e))
    (cases_Bool (p x))
  where
    none : p x ≡ true → (ys : List X) → list_any (eq x) ys ≡ false → list_any p ys ≡ false
    none e [] h = refl
    none e (y ∷ ys) h =
        ⊎_elim
        (λ (q : p y ≡ true). absurd (false≢true (sym h ∙ ap (λ b. b || list_any (eq x) ys) (one x y e q))))
        (λ (q : p y ≡ false).
        ap (λ b. b || list_any p ys) q ∙ none e ys (⊎_elim
        (λ (r : eq x y ≡ true). absurd (false≢true (sym h ∙ ap (λ b. b || list_any (eq x) ys) r)))
        (λ (r : eq x y ≡ false). sym (ap (λ b. b || list_any (eq x) ys) r) ∙ h)
        (cases_Bool (eq x y))))
        (cases_Bool (p y))

module _ {T : Type 0} (same : T → T → Bool) where
  -- M extends m, and only at places that U has
  abbrev pub fits_at : Option T → Bool → Option T → Bool
  fits_at None true z = true
  fits_at None false z = option_eq same z None
  fits_at (Some x) u z = option_eq same z (Some x)

  abbrev pub fits : Solution T → (ℕ → Bool) → Solution T → Bool
  fits [] U [] = true
  fits [] U (z ∷ M) = false
  fits (y ∷ m) U [] = false
  fits (y ∷ m) U (z ∷ M) = fits_at y (U 0) z && fits m (λ k. U (suc k)) M

  abbrev pub fits_some : Option (Solution T) → (ℕ → Bool) → Solution T → Bool
  fits_some None U M = false
  fits_some (Some m) U M = fits m U M

  module _ (decides : (x y : T) → Decides (same x y) (x ≡ y)) where
    bind_by-cons : (o : Option T) (y z : Option T) (m M : Solution T) (k : ℕ) (x : T) (U : ℕ → Bool) → fits_some (bind_by same o (y ∷ m) (suc k) x) U (z ∷ M) ≡ (fits_at y (U 0) z && fits_some (bind_by same o m k x) (λ j. U (suc j)) M)
    bind_by-cons None y z m M k x U = refl
    bind_by-cons (Some a) y z m M k x U =
        elim (same a x) as (λ b. fits_some (if b then Some (y ∷ m) else None) U (z ∷ M) ≡ (fits_at y (U 0) z && fits_some (if b then Some m else None) (λ j. U (suc j)) M)) [
          | true ↦ refl
          | false ↦ sym (and_false (fits_at y (U 0) z))
        ]

    -- a place that holds y already
    again : (y x : T) (z : Option T) (R : Bool) → (cond (same y x) (option_eq same z (Some y) && R) false) ≡ (option_eq same z (Some x) && (option_eq same z (Some y) && R))
    again y x z R =
        ⊎_elim
        (λ (e : same y x ≡ true).
        let p : y ≡ x = (decides y x).0 e in
        rw e (subst (λ (v : T). (option_eq same z (Some y) && R) ≡ (option_eq same z (Some v) && (option_eq same z (Some y) && R))) p (and_itself (option_eq same z (Some y)) R)))
        (λ (e : same y x ≡ false). rw e (sym (apart z e)))
        (cases_Bool (same y x))
      where
        apart : (z : Option T) → same y x ≡ false → (option_eq same z (Some x) && (option_eq same z (Some y) && R)) ≡ false
        apart None e = refl
        apart (Some a) e =
            ⊎_elim
            (λ (p : same a x ≡ true).
            ⊎_elim
            (λ (q : same a y ≡ true).
            let h : same y x ≡ true = (decides y x).1 (sym ((decides a y).0 q) ∙ (decides a x).0 p) in
            absurd (false≢true (sym e ∙ h)))
            (λ (q : same a y ≡ false). rw (p, q) refl)
            (cases_Bool (same a y)))
            (λ (p : same a x ≡ false). rw p refl)
            (cases_Bool (same a x))

    fits-slot : (k : ℕ) (m M : Solution T) (x : T) (U : ℕ → Bool) → k < length m → fits_some (bind_slot same m k x) U M ≡ (option_eq same (get_or M k None) (Some x) && fits m (λ j. at k j || U j) M)
    fits-slot k [] M x U h = absurd (omega arith)
    fits-slot zero (None ∷ m) [] x U h = refl
    fits-slot zero (None ∷ m) (z ∷ M) x U h = refl
    fits-slot zero (Some y ∷ m) [] x U h = elim (same y x) as (λ b. fits_some (if b then Some (Some y ∷ m) else None) U [] ≡ false) [ true ↦ refl | false ↦ refl ]
    fits-slot zero (Some y ∷ m) (z ∷ M) x U h =
        elim_cond (same y x) ∙ again y x z (fits m (λ k. U (suc k)) M)
      where
        elim_cond : (b : Bool) → fits_some (if b then Some (Some y ∷ m) else None) U (z ∷ M) ≡ cond b (option_eq same z (Some y) && fits m (λ k. U (suc k)) M) false
        elim_cond true = refl
        elim_cond false = refl
    fits-slot (suc k) (y ∷ m) [] x U h = none (get_or m k None)
      where
        none : (o : Option T) → fits_some (bind_by same o (y ∷ m) (suc k) x) U [] ≡ false
        none None = refl
        none (Some a) = elim (same a x) as (λ b. fits_some (if b then Some (y ∷ m) else None) U [] ≡ false) [ true ↦ refl | false ↦ refl ]
    fits-slot (suc k) (y ∷ m) (z ∷ M) x U h =
        bind_by-cons (get_or m k None) y z m M k x U ∙ ap (λ b. fits_at y (U 0) z && b) (fits-slot k m M x (λ j. U (suc j)) (omega arith)) ∙ and_swap (fits_at y (U 0) z) (option_eq same (get_or M k None) (Some x)) (fits m (λ j. at k j || U (suc j)) M)

    fits-bind_pattern_term : (w : ℕ) (m M : Solution T) (n : PatternTerm T) (x : T) (U : ℕ → Bool) → IsBelow w (length m) n → fits_some (bind_pattern_term same w m n x) U M ≡ (option_eq same (image w M n) (Some x) && fits m (λ j. is_at w n j || U j) M)
    fits-bind_pattern_term w m M (variable v) x U h =
        fits-slot v m M x U h ∙ ap (λ (V : ℕ → Bool). option_eq same (get_or M v None) (Some x) && fits m V M) (λ i j. at-eqb v j i || U j)
    fits-bind_pattern_term w m M (label l) x U h =
        fits-slot (w + l) m M x U h ∙ ap (λ (V : ℕ → Bool). option_eq same (get_or M (w + l) None) (Some x) && fits m V M) (λ i j. at-eqb (w + l) j i || U j)
    fits-bind_pattern_term w m M (constant c) x U h = elim (same c x) as (λ b. fits_some (if b then Some m else None) U M ≡ (b && fits m U M)) [ true ↦ refl | false ↦ refl ]

    -- the length of the map in it
    abbrev pub IsLong : ℕ → Option (Solution T) → Type 0
    IsLong n None = Unit {0}
    IsLong n (Some m) = length m ≡ n

    IsLong-if : (n : ℕ) (b : Bool) (m : Solution T) → length m ≡ n → IsLong n (if b then Some m else None)
    IsLong-if n true m h = h
    IsLong-if n false m h = tt

    IsLong-slot : (n : ℕ) (o : Option T) (m : Solution T) (k : ℕ) (x : T) → length m ≡ n → IsLong n (bind_by same o m k x)
    IsLong-slot n None m k x h = length-set m k (Some x) ∙ h
    IsLong-slot n (Some y) m k x h = IsLong-if n (same y x) m h

    IsLong-bind_pattern_term : (w n : ℕ) (m : Solution T) (a : PatternTerm T) (x : T) → length m ≡ n → IsLong n (bind_pattern_term same w m a x)
    IsLong-bind_pattern_term w n m (variable v) x h = IsLong-slot n (get_or m v None) m v x h
    IsLong-bind_pattern_term w n m (label l) x h = IsLong-slot n (get_or m (w + l) None) m (w + l) x h
    IsLong-bind_pattern_term w n m (constant c) x h = IsLong-if n (same c x) m h

    IsLong-then_bind : (w n : ℕ) (o : Option (Solution T)) (a : PatternTerm T) (x : T) → IsLong n o → IsLong n (then_bind same w o a x)
    IsLong-then_bind w n None a x h = tt
    IsLong-then_bind w n (Some m) a x h = IsLong-bind_pattern_term w n m a x h

    pub IsLong-extend_by : (w n : ℕ) (t : TriplePattern T) (m : Solution T) (g : Triple T) → length m ≡ n → IsLong n (extend_by same w t m g)
    IsLong-extend_by w n t m g h =
        IsLong-then_bind w n (then_bind same w (then_bind same w (Some m) t.s g.s) t.p g.p) t.o g.o (IsLong-then_bind w n (then_bind same w (Some m) t.s g.s) t.p g.p (IsLong-then_bind w n (Some m) t.s g.s h))

    fits-then_bind : (w n : ℕ) (o : Option (Solution T)) (a : PatternTerm T) (x : T) (U : ℕ → Bool) (M : Solution T) → IsLong n o → IsBelow w n a → fits_some (then_bind same w o a x) U M ≡ (option_eq same (image w M a) (Some x) && fits_some o (λ j. is_at w a j || U j) M)
    fits-then_bind w n None a x U M h b = sym (and_false (option_eq same (image w M a) (Some x)))
    fits-then_bind w n (Some m) a x U M h b = fits-bind_pattern_term w m M a x U (subst (λ l. IsBelow w l a) (sym h) b)

    reorder : (a b c d : Bool) → (c && (b && (a && d))) ≡ (((a && b) && c) && d)
    reorder true true c d = refl
    reorder true false c d = and_false c
    reorder false true c d = and_false c
    reorder false false c d = and_false c

    fits-extend_by : (w n : ℕ) (t : TriplePattern T) (m : Solution T) (g : Triple T) (U : ℕ → Bool) (M : Solution T) → length m ≡ n → IsTripleBelow w n t → fits_some (extend_by same w t m g) U M ≡ (takes_to same w M t g && fits m (λ j. mentions w t j || U j) M)
    fits-extend_by w n t m g U M h b =
        let o1 = then_bind same w (Some m) t.s g.s in
        let o2 = then_bind same w o1 t.p g.p in
        let l1 = IsLong-then_bind w n (Some m) t.s g.s h in
        let l2 = IsLong-then_bind w n o1 t.p g.p l1 in
        let U1 : ℕ → Bool = λ j. is_at w t.o j || U j in
        let U2 : ℕ → Bool = λ j. is_at w t.p j || U1 j in
        let io = option_eq same (image w M t.o) (Some g.o) in
        let ip = option_eq same (image w M t.p) (Some g.p) in
        let is = option_eq same (image w M t.s) (Some g.s) in
        fits-then_bind w n o2 t.o g.o U M l2 b.2
        ∙ ap (λ z. io && z) (fits-then_bind w n o1 t.p g.p U1 M l1 b.1)
        ∙ ap (λ z. io && (ip && z)) (fits-then_bind w n (Some m) t.s g.s U2 M h b.0)
        ∙ reorder is ip io (fits m (λ j. is_at w t.s j || U2 j) M)
        ∙ ap (λ (V : ℕ → Bool). takes_to same w M t g && fits m V M) (λ i j. (or_assoc (is_at w t.s j) (is_at w t.p j) (is_at w t.o j || U j) ∙ or_assoc (is_at w t.s j || is_at w t.p j) (is_at w t.o j) (U j)) i)

    fits-nothing : (m M : Solution T) → fits m (λ _. false) M ≡ same_solution same M m
    fits-nothing [] [] = refl
    fits-nothing [] (z ∷ M) = refl
    fits-nothing (y ∷ m) [] = refl
    fits-nothing (None ∷ m) (z ∷ M) = ap (λ b. option_eq same z None && b) (fits-nothing m M)
    fits-nothing (Some x ∷ m) (z ∷ M) = ap (λ b. option_eq same z (Some x) && b) (fits-nothing m M)

    -- a sum of one over the rows that an optional row gives
    abbrev pub count_some : {X Y : Type 0} → (Y → Bool) → (X → List Y) → Option X → ℕ
    count_some p f None = 0
    count_some p f (Some x) = count_by p (f x)

    count_by-flat_map-filter_map : {A X Y : Type 0} (p : Y → Bool) (f : X → List Y) (h : A → Option X) (xs : List A) → count_by p (flat_map f (filter_map h xs)) ≡ sum_by (λ a. count_some p f (h a)) xs
    count_by-flat_map-filter_map p f h [] = refl
    count_by-flat_map-filter_map {A} {X} {Y} p f h (a ∷ xs) = by (h a) ∙ ap (λ n. count_some p f (h a) + n) (count_by-flat_map-filter_map p f h xs) ∙ sym (sum_by-cons (λ a. count_some p f (h a)) a xs)
      where
        by : (o : Option X) → count_by p (flat_map f (cons_option o (filter_map h xs))) ≡ count_some p f o + count_by p (flat_map f (filter_map h xs))
        by None = omega arith
        by (Some x) = count_by-append p (f x) (flat_map f (filter_map h xs))

    sum_by_each : {X : Type 0} (f g : X → ℕ) → ((x : X) → f x ≡ g x) → (xs : List X) → sum_by f xs ≡ sum_by g xs
    sum_by_each f g e xs = ap (λ (h : _ → ℕ). sum_by h xs) (λ i x. e x i)

    takes_one : (w : ℕ) (M : Solution T) (t : TriplePattern T) (g h : Triple T) → takes_to same w M t g ≡ true → takes_to same w M t h ≡ true → same_triple_by same g h ≡ true
    takes_one w M t g h p q =
        let d = option_decides same decides in
        let a = and_parts _ _ p in
        let b = and_parts _ _ a.0 in
        let a' = and_parts _ _ q in
        let b' = and_parts _ _ a'.0 in
        let es : g.s ≡ h.s = inside (sym ((d (image w M t.s) (Some g.s)).0 b.0) ∙ (d (image w M t.s) (Some h.s)).0 b'.0) in
        let ep : g.p ≡ h.p = inside (sym ((d (image w M t.p) (Some g.p)).0 b.1) ∙ (d (image w M t.p) (Some h.p)).0 b'.1) in
        let eo : g.o ≡ h.o = inside (sym ((d (image w M t.o) (Some g.o)).0 a.1) ∙ (d (image w M t.o) (Some h.o)).0 a'.1) in
        and_true ((decides g.s h.s).1 es) ((decides g.p h.p).1 ep) ((decides g.o h.o).1 eo)
      where
        inside : {x y : T} → Some x ≡ Some y → x ≡ y
        inside e = cc

        and_true : {a b c : Bool} → a ≡ true → b ≡ true → c ≡ true → (a && b && c) ≡ true
        and_true p q r = rw (p, q, r) refl

    zeros : (G : List (Triple T)) → sum_by (λ _. 0) G ≡ 0
    zeros [] = refl
    zeros (g ∷ G) = let e = sum_by-cons (λ _. 0) g G in let i = zeros G in omega arith

    rows_of_one : (A B : Bool) (p : Triple T → Bool) (eq : Triple T → Triple T → Bool) → ((g h : Triple T) → p g ≡ true → p h ≡ true → eq g h ≡ true) → (G : List (Triple T)) → IsWithoutRepeats eq G
        → sum_by (λ g. cond (A && (p g && B)) 1 0) G ≡ cond ((list_any p G && A) && B) 1 0
    rows_of_one true true p eq one G h = sum_by_each (λ g. cond (p g && true) 1 0) (λ g. cond (p g) 1 0) (λ g. ap (λ (b : Bool). cond b 1 0) (and_true (p g))) G ∙ count_by_one eq p one G h ∙ ap (λ (b : Bool). cond b 1 0) (sym (and_true (list_any p G && true) ∙ and_true (list_any p G)))
      where
        and_true : (b : Bool) → (b && true) ≡ b
        and_true true = refl
        and_true false = refl
    rows_of_one true false p eq one G h = sum_by_each (λ g. cond (p g && false) 1 0) (λ _. 0) (λ g. ap (λ (b : Bool). cond b 1 0) (and_false (p g))) G ∙ zeros G ∙ ap (λ (b : Bool). cond b 1 0) (sym (and_false (list_any p G && true)))
    rows_of_one false B p eq one G h = zeros G ∙ ap (λ (b : Bool). cond (b && B) 1 0) (sym (and_false (list_any p G)))

    -- each map is given once, if it extends m to terms that occur in the pattern and takes the
    -- pattern into the graph
    pub count_by-solve : (w n : ℕ) (P : List (TriplePattern T)) (G : List (Triple T)) → IsWithoutRepeats (same_triple_by same) G → AreBelow w n P → (m M : Solution T) → length m ≡ n
        → count_by (same_solution same M) (solve same w P G m) ≡ cond (is_in same w P G M && fits m (occurs w P) M) 1 0
    count_by-solve w n [] G once b m M h = count_by-cons (same_solution same M) m [] ∙ add_zero (cond (same_solution same M m) 1 0) ∙ ap (λ (b : Bool). cond b 1 0) (sym (fits-nothing m M))
      where
        add_zero : (n : ℕ) → n + 0 ≡ n
        add_zero n = omega arith
    count_by-solve w n (t ∷ ts) G once b m M h =
        let A = is_in same w ts G M in
        let B = fits m (occurs w (t ∷ ts)) M in
        count_by-flat_map-filter_map (same_solution same M) (solve same w ts G) (extend_by same w t m) G
        ∙ sum_by_each _ (λ g. cond (A && (takes_to same w M t g && B)) 1 0) (λ g. step (λ m' l. count_by-solve w n ts G once b.1 m' M l) (extend_by same w t m g) (IsLong-extend_by w n t m g h) ∙ ap (λ b. cond (A && b) 1 0) (fits-extend_by w n t m g (occurs w ts) M h b.0)) G
        ∙ rows_of_one A B (takes_to same w M t) (same_triple_by same) (takes_one w M t) G once
      where
        step : ((m' : Solution T) → length m' ≡ n → count_by (same_solution same M) (solve same w ts G m') ≡ cond (is_in same w ts G M && fits m' (occurs w ts) M) 1 0) → (o : Option (Solution T)) → IsLong n o → count_some (same_solution same M) (solve same w ts G) o ≡ cond (is_in same w ts G M && fits_some o (occurs w ts) M) 1 0
        step i None l = ap (λ (b : Bool). cond b 1 0) (sym (and_false (is_in same w ts G M)))
        step i (Some m') l = i m' l
