-- The operators commute with a reading of rows that maps distinct numbers to distinct terms.
use Rattle.std.proofs.Common.{◌≡◌, ℕ, zero, suc, ◌+◌, Bool, true, false, cond, not, ◌&&◌, ◌||◌, List, [], ◌∷◌, ◌++◌, get_or, set, map, filter, Option, None, Some, flat_map, filter_map, option_map, if◌then◌else◌, refl, sym, ap, ◌∙◌, subst}
use Rattle.std.specs.List.{list_all, cons_option}
use Rattle.std.proofs.lemmas.List.{map-append, map-set}
use Rattle.algebra_model.specs.Solution.{Solution, is_compatible, merge}
use Rattle.algebra_model.specs.Bgp.{Triple, PatternTerm, TriplePattern, variable, label, constant}
use Rattle.algebra_model.specs.Renaming.{Each, EachBound, EachConstant, EachOfTriple, EachOfPattern, read_row, read_pattern_term, read_triple}
use Rattle.algebra_model.specs.Operators.{join, merges, minus, share}
use Rattle.algebra_model.proofs.RangeLaws.{Each-flat_map}
use Rattle.algebra_model.specs.Solve.{solve, bind_by, bind_slot, bind_pattern_term, then_bind, extend_by}

module _ {A B : Type 0} (sa : A → A → Bool) (sb : B → B → Bool) (In : A → Type 0) (f : A → B) (one : (x y : A) → In x → In y → sb (f x) (f y) ≡ sa x y) where
  pub merge-read : (μ ν : Solution A) → merge (read_row f μ) (read_row f ν) ≡ read_row f (merge μ ν)
  merge-read [] ν = refl
  merge-read (x ∷ μ) [] = refl
  merge-read (None ∷ μ) (y ∷ ν) = ap (λ r. option_map f y ∷ r) (merge-read μ ν)
  merge-read (Some x ∷ μ) (y ∷ ν) = ap (λ r. Some (f x) ∷ r) (merge-read μ ν)

  pub is_compatible-read : (μ ν : Solution A) → EachBound In μ → EachBound In ν → is_compatible sb (read_row f μ) (read_row f ν) ≡ is_compatible sa μ ν
  is_compatible-read [] ν h k = refl
  is_compatible-read (x ∷ μ) [] h k = refl
  is_compatible-read (None ∷ μ) (None ∷ ν) h k = is_compatible-read μ ν h k
  is_compatible-read (None ∷ μ) (Some y ∷ ν) h k = is_compatible-read μ ν h k.1
  is_compatible-read (Some x ∷ μ) (None ∷ ν) h k = is_compatible-read μ ν h.1 k
  is_compatible-read (Some x ∷ μ) (Some y ∷ ν) h k = λ i. one x y h.0 k.0 i && is_compatible-read μ ν h.1 k.1 i

  pub share-read : (μ ν : Solution A) → share (read_row f μ) (read_row f ν) ≡ share μ ν
  share-read [] ν = refl
  share-read (x ∷ μ) [] = refl
  share-read (None ∷ μ) (y ∷ ν) = share-read μ ν
  share-read (Some x ∷ μ) (None ∷ ν) = share-read μ ν
  share-read (Some x ∷ μ) (Some y ∷ ν) = refl

  pub merges-read : (μ : Solution A) → EachBound In μ → (R : List (Solution A)) → Each (EachBound In) R → merges sb (read_row f μ) (map (read_row f) R) ≡ map (read_row f) (merges sa μ R)
  merges-read μ h [] k = refl
  merges-read μ h (ν ∷ R) k =
      ap (λ b. map (merge (read_row f μ)) (cond b (read_row f ν ∷ filter (is_compatible sb (read_row f μ)) (map (read_row f) R)) (filter (is_compatible sb (read_row f μ)) (map (read_row f) R)))) (is_compatible-read μ ν h k.0)
      ∙ by (is_compatible sa μ ν) (merges-read μ h R k.1)
    where
      by : (b : Bool) → merges sb (read_row f μ) (map (read_row f) R) ≡ map (read_row f) (merges sa μ R)
          → map (merge (read_row f μ)) (cond b (read_row f ν ∷ filter (is_compatible sb (read_row f μ)) (map (read_row f) R)) (filter (is_compatible sb (read_row f μ)) (map (read_row f) R)))
          ≡ map (read_row f) (map (merge μ) (cond b (ν ∷ filter (is_compatible sa μ) R) (filter (is_compatible sa μ) R)))
      by true i = λ j. merge-read μ ν j ∷ i j
      by false i = i

  pub join-read : (L R : List (Solution A)) → Each (EachBound In) L → Each (EachBound In) R → join sb (map (read_row f) L) (map (read_row f) R) ≡ map (read_row f) (join sa L R)
  join-read [] R h k = refl
  join-read (μ ∷ L) R h k = (λ i. merges-read μ h.0 R k i ++ join-read L R h.1 k i) ∙ sym (map-append (read_row f) (merges sa μ R) (join sa L R))

  -- what a row of L requires of all rows of R
  pub apart-read : (μ : Solution A) → EachBound In μ → (R : List (Solution A)) → Each (EachBound In) R
      → list_all (λ ν. not (is_compatible sb (read_row f μ) ν) || not (share (read_row f μ) ν)) (map (read_row f) R) ≡ list_all (λ ν. not (is_compatible sa μ ν) || not (share μ ν)) R
  apart-read μ h [] k = refl
  apart-read μ h (ν ∷ R) k = λ i. (not (is_compatible-read μ ν h k.0 i) || not (share-read μ ν i)) && apart-read μ h R k.1 i

  pub filter-read : (p : Solution B → Bool) (q : Solution A → Bool) → ((μ : Solution A) → EachBound In μ → p (read_row f μ) ≡ q μ) → (L : List (Solution A)) → Each (EachBound In) L → filter p (map (read_row f) L) ≡ map (read_row f) (filter q L)
  filter-read p q e [] h = refl
  filter-read p q e (μ ∷ L) h =
      ap (λ b. cond b (read_row f μ ∷ filter p (map (read_row f) L)) (filter p (map (read_row f) L))) (e μ h.0) ∙ by (q μ) (filter-read p q e L h.1)
    where
      by : (b : Bool) → filter p (map (read_row f) L) ≡ map (read_row f) (filter q L) → cond b (read_row f μ ∷ filter p (map (read_row f) L)) (filter p (map (read_row f) L)) ≡ map (read_row f) (cond b (μ ∷ filter q L) (filter q L))
      by true i = ap (λ r. read_row f μ ∷ r) i
      by false i = i

  pub minus-read : (L R : List (Solution A)) → Each (EachBound In) L → Each (EachBound In) R → minus sb (map (read_row f) L) (map (read_row f) R) ≡ map (read_row f) (minus sa L R)
  minus-read L R h k =
      filter-read (λ μ. list_all (λ ν. not (is_compatible sb μ ν) || not (share μ ν)) (map (read_row f) R)) (λ μ. list_all (λ ν. not (is_compatible sa μ ν) || not (share μ ν)) R) (λ μ e. apart-read μ e R k) L h

  -- patterns

  abbrev pub InOption : Option A → Type 0
  InOption None = Unit {0}
  InOption (Some x) = In x

  abbrev pub InRow : Option (Solution A) → Type 0
  InRow None = Unit {0}
  InRow (Some m) = EachBound In m

  pub get_or-read : (m : Solution A) (k : ℕ) → get_or (read_row f m) k None ≡ option_map f (get_or m k None)
  get_or-read [] k = refl
  get_or-read (x ∷ m) zero = refl
  get_or-read (x ∷ m) (suc k) = get_or-read m k

  in-get_or : (m : Solution A) (k : ℕ) → EachBound In m → InOption (get_or m k None)
  in-get_or [] k h = tt
  in-get_or (None ∷ m) zero h = tt
  in-get_or (Some x ∷ m) zero h = h.0
  in-get_or (None ∷ m) (suc k) h = in-get_or m k h
  in-get_or (Some x ∷ m) (suc k) h = in-get_or m k h.1

  in-set : (m : Solution A) (k : ℕ) (x : A) → In x → EachBound In m → EachBound In (set m k (Some x))
  in-set [] k x i h = tt
  in-set (None ∷ m) zero x i h = (i, h)
  in-set (Some y ∷ m) zero x i h = (i, h.1)
  in-set (None ∷ m) (suc k) x i h = in-set m k x i h
  in-set (Some y ∷ m) (suc k) x i h = (h.0, in-set m k x i h.1)

  if-read : (b : Bool) (m : Solution A) → (if b then Some (read_row f m) else None) ≡ option_map (read_row f) (if b then Some m else None)
  if-read true m = refl
  if-read false m = refl

  in-if : (b : Bool) (m : Solution A) → EachBound In m → InRow (if b then Some m else None)
  in-if true m h = h
  in-if false m h = tt

  bind_by-read : (o : Option A) (m : Solution A) (k : ℕ) (x : A) → InOption o → In x → bind_by sb (option_map f o) (read_row f m) k (f x) ≡ option_map (read_row f) (bind_by sa o m k x)
  bind_by-read None m k x h i = ap Some (sym (map-set (option_map f) m k (Some x)))
  bind_by-read (Some y) m k x h i = ap (λ b. if b then Some (read_row f m) else None) (one y x h i) ∙ if-read (sa y x) m

  bind_slot-read : (m : Solution A) (k : ℕ) (x : A) → EachBound In m → In x → bind_slot sb (read_row f m) k (f x) ≡ option_map (read_row f) (bind_slot sa m k x)
  bind_slot-read m k x h i = ap (λ o. bind_by sb o (read_row f m) k (f x)) (get_or-read m k) ∙ bind_by-read (get_or m k None) m k x (in-get_or m k h) i

  in-bind_by : (o : Option A) (m : Solution A) (k : ℕ) (x : A) → EachBound In m → In x → InRow (bind_by sa o m k x)
  in-bind_by None m k x h i = in-set m k x i h
  in-bind_by (Some y) m k x h i = in-if (sa y x) m h

  bind_pattern_term-read : (w : ℕ) (m : Solution A) (n : PatternTerm A) (x : A) → EachBound In m → EachConstant In n → In x → bind_pattern_term sb w (read_row f m) (read_pattern_term f n) (f x) ≡ option_map (read_row f) (bind_pattern_term sa w m n x)
  bind_pattern_term-read w m (variable v) x h k i = bind_slot-read m v x h i
  bind_pattern_term-read w m (label l) x h k i = bind_slot-read m (w + l) x h i
  bind_pattern_term-read w m (constant c) x h k i = ap (λ b. if b then Some (read_row f m) else None) (one c x k i) ∙ if-read (sa c x) m

  in-bind_pattern_term : (w : ℕ) (m : Solution A) (n : PatternTerm A) (x : A) → EachBound In m → In x → InRow (bind_pattern_term sa w m n x)
  in-bind_pattern_term w m (variable v) x h i = in-bind_by (get_or m v None) m v x h i
  in-bind_pattern_term w m (label l) x h i = in-bind_by (get_or m (w + l) None) m (w + l) x h i
  in-bind_pattern_term w m (constant c) x h i = in-if (sa c x) m h

  then_bind-read : (w : ℕ) (o : Option (Solution A)) (n : PatternTerm A) (x : A) → InRow o → EachConstant In n → In x → then_bind sb w (option_map (read_row f) o) (read_pattern_term f n) (f x) ≡ option_map (read_row f) (then_bind sa w o n x)
  then_bind-read w None n x h k i = refl
  then_bind-read w (Some m) n x h k i = bind_pattern_term-read w m n x h k i

  in-then_bind : (w : ℕ) (o : Option (Solution A)) (n : PatternTerm A) (x : A) → InRow o → In x → InRow (then_bind sa w o n x)
  in-then_bind w None n x h i = tt
  in-then_bind w (Some m) n x h i = in-bind_pattern_term w m n x h i

  pub in-extend_by : (w : ℕ) (t : TriplePattern A) (m : Solution A) (g : Triple A) → EachBound In m → EachOfTriple In g → InRow (extend_by sa w t m g)
  in-extend_by w t m g h i = in-then_bind w _ t.o g.o (in-then_bind w _ t.p g.p (in-then_bind w (Some m) t.s g.s h i.0) i.1) i.2

  pub extend_by-read : (w : ℕ) (t : TriplePattern A) (m : Solution A) (g : Triple A) → EachBound In m → EachOfPattern In t → EachOfTriple In g → extend_by sb w (read_triple (read_pattern_term f) t) (read_row f m) (read_triple f g) ≡ option_map (read_row f) (extend_by sa w t m g)
  extend_by-read w t m g h k i =
      let o1 = then_bind sa w (Some m) t.s g.s in
      let o2 = then_bind sa w o1 t.p g.p in
      let h1 = in-then_bind w (Some m) t.s g.s h i.0 in
      let h2 = in-then_bind w o1 t.p g.p h1 i.1 in
      ap (λ o. then_bind sb w (then_bind sb w o (read_pattern_term f t.p) (f g.p)) (read_pattern_term f t.o) (f g.o)) (then_bind-read w (Some m) t.s g.s h k.0 i.0)
      ∙ ap (λ o. then_bind sb w o (read_pattern_term f t.o) (f g.o)) (then_bind-read w o1 t.p g.p h1 k.1 i.1)
      ∙ then_bind-read w o2 t.o g.o h2 k.2 i.2

  pub extends-read : (w : ℕ) (t : TriplePattern A) (m : Solution A) (G : List (Triple A)) → EachBound In m → EachOfPattern In t → Each (EachOfTriple In) G → filter_map (extend_by sb w (read_triple (read_pattern_term f) t) (read_row f m)) (map (read_triple f) G) ≡ map (read_row f) (filter_map (extend_by sa w t m) G)
  extends-read w t m [] h k i = refl
  extends-read w t m (g ∷ G) h k i =
      ap (λ o. cons_option o (filter_map (extend_by sb w (read_triple (read_pattern_term f) t) (read_row f m)) (map (read_triple f) G))) (extend_by-read w t m g h k i.0)
      ∙ by (extend_by sa w t m g) (extends-read w t m G h k i.1)
    where
      by : (o : Option (Solution A)) → filter_map (extend_by sb w (read_triple (read_pattern_term f) t) (read_row f m)) (map (read_triple f) G) ≡ map (read_row f) (filter_map (extend_by sa w t m) G)
          → cons_option (option_map (read_row f) o) (filter_map (extend_by sb w (read_triple (read_pattern_term f) t) (read_row f m)) (map (read_triple f) G)) ≡ map (read_row f) (cons_option o (filter_map (extend_by sa w t m) G))
      by None e = e
      by (Some r) e = ap (λ rs. read_row f r ∷ rs) e

  pub in-extends : (w : ℕ) (t : TriplePattern A) (m : Solution A) (G : List (Triple A)) → EachBound In m → Each (EachOfTriple In) G → Each (EachBound In) (filter_map (extend_by sa w t m) G)
  in-extends w t m [] h i = tt
  in-extends w t m (g ∷ G) h i = by (extend_by sa w t m g) (in-extend_by w t m g h i.0) (in-extends w t m G h i.1)
    where
      by : (o : Option (Solution A)) → InRow o → Each (EachBound In) (filter_map (extend_by sa w t m) G) → Each (EachBound In) (cons_option o (filter_map (extend_by sa w t m) G))
      by None e r = r
      by (Some r) e rs = (e, rs)

  pub flat_map-read : (F : Solution B → List (Solution B)) (H : Solution A → List (Solution A)) → ((m : Solution A) → EachBound In m → F (read_row f m) ≡ map (read_row f) (H m)) → (R : List (Solution A)) → Each (EachBound In) R → flat_map F (map (read_row f) R) ≡ map (read_row f) (flat_map H R)
  flat_map-read F H e [] h = refl
  flat_map-read F H e (m ∷ R) h = (λ i. e m h.0 i ++ flat_map-read F H e R h.1 i) ∙ sym (map-append (read_row f) (H m) (flat_map H R))

  pub solve-read : (w : ℕ) (P : List (TriplePattern A)) (G : List (Triple A)) (m : Solution A) → Each (EachOfPattern In) P → Each (EachOfTriple In) G → EachBound In m
      → solve sb w (map (read_triple (read_pattern_term f)) P) (map (read_triple f) G) (read_row f m) ≡ map (read_row f) (solve sa w P G m)
  solve-read w [] G m k i h = refl
  solve-read w (t ∷ P) G m k i h =
      ap (flat_map (solve sb w (map (read_triple (read_pattern_term f)) P) (map (read_triple f) G))) (extends-read w t m G h k.0 i)
      ∙ flat_map-read (solve sb w (map (read_triple (read_pattern_term f)) P) (map (read_triple f) G)) (solve sa w P G) (λ r e. solve-read w P G r k.1 i e) (filter_map (extend_by sa w t m) G) (in-extends w t m G h i)

  -- what is found in a graph is in the graph
  pub solve-bound : (w : ℕ) (P : List (TriplePattern A)) (G : List (Triple A)) (m : Solution A) → Each (EachOfTriple In) G → EachBound In m → Each (EachBound In) (solve sa w P G m)
  solve-bound w [] G m i h = (h, tt)
  solve-bound w (t ∷ P) G m i h = Each-flat_map (EachBound In) (EachBound In) (solve sa w P G) (λ r e. solve-bound w P G r i e) (filter_map (extend_by sa w t m) G) (in-extends w t m G h i)

pub bound_at : {A : Type 0} (In : A → Type 0) (m : Solution A) (k : ℕ) (x : A) → EachBound In m → get_or m k None ≡ Some x → In x
bound_at In [] k x h e = cc
bound_at In (None ∷ m) zero x h e = cc
bound_at In (Some y ∷ m) zero x h e = let p : y ≡ x = cc in subst In p h.0
bound_at In (None ∷ m) (suc k) x h e = bound_at In m k x h e
bound_at In (Some y ∷ m) (suc k) x h e = bound_at In m k x h.1 e
