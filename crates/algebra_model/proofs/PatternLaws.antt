-- Basic graph patterns solved from selected triples. The order of a pattern's triples does not
-- change its solutions, and only triples that agree with a partial map extend it.
use Rattle.std.proofs.Common.{◌≡◌, ℕ, zero, suc, ◌+◌, Bool, true, false, cond, ◌&&◌, List, [], ◌∷◌, get_or, set, take, map, filter, filter_map, flat_map, Option, None, Some, Decides, IsPermutation, if◌then◌else◌, refl, sym, ap, ◌∙◌, subst, ⊎_elim, inl, inr, ◌⊎◌}
use Rattle.std.proofs.lemmas.Bool.{cases_Bool, false≢true}
use Rattle.std.specs.List.{list_any, cons_option}
use Rattle.std.proofs.lemmas.List.Sorted.{list_any-IsPermutation}
use Rattle.algebra_model.specs.Bag.{IsSameBag}
use Rattle.algebra_model.specs.Solution.{Solution, same_solution, agree}
use Rattle.algebra_model.specs.Bgp.{Triple, PatternTerm, TriplePattern, variable, label, constant, image, mentions, occurs, is_in, takes_to, every_map, terms, bgp}
use Rattle.algebra_model.specs.Solve.{bind_by, bind_pattern_term, then_bind, extend_by, solve, agrees_with}
use Rattle.algebra_model.proofs.BagLaws.{list_all-IsPermutation, IsPermutation-filter_map, IsPermutation-flat_map}
use Rattle.algebra_model.proofs.BgpLaws.{solution_decides}

-- a filter may drop any of the elements that h drops
pub filter_map-of_filter : {X Y : Type 0} (h : X → Option Y) (q : X → Bool) → ((x : X) → q x ≡ false → h x ≡ None) → (xs : List X) → filter_map h (filter q xs) ≡ filter_map h xs
filter_map-of_filter h q drops [] = refl
filter_map-of_filter {X} {Y} h q drops (x ∷ xs) =
    ⊎_elim
    (λ (e : q x ≡ true). ap (λ b. filter_map h (cond b (x ∷ filter q xs) (filter q xs))) e ∙ ap (cons_option (h x)) (filter_map-of_filter h q drops xs))
    (λ (e : q x ≡ false). ap (λ b. filter_map h (cond b (x ∷ filter q xs) (filter q xs))) e ∙ filter_map-of_filter h q drops xs ∙ ap (λ o. cons_option o (filter_map h xs)) (sym (drops x e)))
    (cases_Bool (q x))

module _ {T : Type 0} (same : T → T → Bool) where
  -- the order of a pattern's triples does not change the list of its solutions
  pub bgp-pattern_order : (w l : ℕ) (P Q : List (TriplePattern T)) → IsPermutation P Q → (G : List (Triple T)) → bgp same w l P G ≡ bgp same w l Q G
  bgp-pattern_order w l P Q h G =
      let inside : (M : Solution T) → is_in same w P G M ≡ is_in same w Q G M = λ M. list_all-IsPermutation (λ t. list_any (takes_to same w M t) G) P Q h in
      let used : (k : ℕ) → occurs w P k ≡ occurs w Q k = λ k. list_any-IsPermutation (λ t. mentions w t k) P Q h in
      λ i. map (take w) (filter (λ M. inside M i) (every_map (λ k. used k i) (terms same G) (w + l)))

  apart : (a x : T) (m : Solution T) → same a x ≡ false → (if same a x then Some m else None) ≡ None
  apart a x m e = ap (λ (b : Bool). if b then Some m else None) e

  bind_by-apart : (o : Option T) (m : Solution T) (k : ℕ) (x : T) → agree same o (Some x) ≡ false → bind_by same o m k x ≡ None
  bind_by-apart None m k x e = absurd (false≢true (sym e))
  bind_by-apart (Some a) m k x e = apart a x m e

  bind-apart : (w : ℕ) (m : Solution T) (n : PatternTerm T) (x : T) → agree same (image w m n) (Some x) ≡ false → bind_pattern_term same w m n x ≡ None
  bind-apart w m (variable v) x e = bind_by-apart (get_or m v None) m v x e
  bind-apart w m (label l) x e = bind_by-apart (get_or m (w + l) None) m (w + l) x e
  bind-apart w m (constant c) x e = apart c x m e

  -- what m binds, the other map binds to the same term
  abbrev Keeps : Solution T → Solution T → Type 0
  Keeps m M = (k : ℕ) (a : T) → get_or m k None ≡ Some a → get_or M k None ≡ Some a

  abbrev KeepsIn : Solution T → Option (Solution T) → Type 0
  KeepsIn m None = Unit {0}
  KeepsIn m (Some M) = Keeps m M

  set-keeps : (m : Solution T) (j : ℕ) (x : T) → get_or m j None ≡ None → Keeps m (set m j (Some x))
  set-keeps [] j x n k a e = cc
  set-keeps (y ∷ m) zero x n zero a e = cc
  set-keeps (y ∷ m) zero x n (suc k) a e = e
  set-keeps (y ∷ m) (suc j) x n zero a e = e
  set-keeps (y ∷ m) (suc j) x n (suc k) a e = set-keeps m j x n k a e

  KeepsIn-if : (m M : Solution T) (b : Bool) → Keeps m M → KeepsIn m (if b then Some M else None)
  KeepsIn-if m M true h = h
  KeepsIn-if m M false h = tt

  bind_by-keeps : (m M : Solution T) (j : ℕ) (x : T) (o : Option T) → get_or M j None ≡ o → Keeps m M → KeepsIn m (bind_by same o M j x)
  bind_by-keeps m M j x None e h = λ k a p. set-keeps M j x e k a (h k a p)
  bind_by-keeps m M j x (Some y) e h = KeepsIn-if m M (same y x) h

  bind-keeps : (w : ℕ) (m M : Solution T) (n : PatternTerm T) (x : T) → Keeps m M → KeepsIn m (bind_pattern_term same w M n x)
  bind-keeps w m M (variable v) x h = bind_by-keeps m M v x (get_or M v None) refl h
  bind-keeps w m M (label l) x h = bind_by-keeps m M (w + l) x (get_or M (w + l) None) refl h
  bind-keeps w m M (constant c) x h = KeepsIn-if m M (same c x) h

  then_bind-keeps : (w : ℕ) (m : Solution T) (o : Option (Solution T)) (n : PatternTerm T) (x : T) → KeepsIn m o → KeepsIn m (then_bind same w o n x)
  then_bind-keeps w m None n x h = tt
  then_bind-keeps w m (Some M) n x h = bind-keeps w m M n x h

  agree-apart : (o p : Option T) (x : T) → ((a : T) → o ≡ Some a → p ≡ Some a) → agree same o (Some x) ≡ false → agree same p (Some x) ≡ false
  agree-apart None p x h e = absurd (false≢true (sym e))
  agree-apart (Some a) p x h e = ap (λ q. agree same q (Some x)) (h a refl) ∙ e

  image-apart : (w : ℕ) (m M : Solution T) (n : PatternTerm T) (x : T) → Keeps m M → agree same (image w m n) (Some x) ≡ false → agree same (image w M n) (Some x) ≡ false
  image-apart w m M (variable v) x h e = agree-apart (get_or m v None) (get_or M v None) x (h v) e
  image-apart w m M (label l) x h e = agree-apart (get_or m (w + l) None) (get_or M (w + l) None) x (h (w + l)) e
  image-apart w m M (constant c) x h e = e

  then_bind-apart : (w : ℕ) (m : Solution T) (o : Option (Solution T)) (n : PatternTerm T) (x : T) → KeepsIn m o → agree same (image w m n) (Some x) ≡ false → then_bind same w o n x ≡ None
  then_bind-apart w m None n x h e = refl
  then_bind-apart w m (Some M) n x h e = bind-apart w M n x (image-apart w m M n x h e)

  -- a triple that does not agree with the map does not extend it
  pub extend_by-apart : (w : ℕ) (t : TriplePattern T) (m : Solution T) (g : Triple T) → agrees_with same w t m g ≡ false → extend_by same w t m g ≡ None
  extend_by-apart w t m g e =
      let o1 = then_bind same w (Some m) t.s g.s in
      let o2 = then_bind same w o1 t.p g.p in
      let k1 = then_bind-keeps w m (Some m) t.s g.s (λ k a p. p) in
      let k2 = then_bind-keeps w m o1 t.p g.p k1 in
      ⊎_elim
      (λ (s : agree same (image w m t.s) (Some g.s) ≡ false). ap (λ o. then_bind same w (then_bind same w o t.p g.p) t.o g.o) (then_bind-apart w m (Some m) t.s g.s (λ k a p. p) s))
      (λ (s : agree same (image w m t.s) (Some g.s) ≡ true).
      ⊎_elim
      (λ (p : agree same (image w m t.p) (Some g.p) ≡ false). ap (λ o. then_bind same w o t.o g.o) (then_bind-apart w m o1 t.p g.p k1 p))
      (λ (p : agree same (image w m t.p) (Some g.p) ≡ true). then_bind-apart w m o2 t.o g.o k2 (last s p e))
      (either_false (agree same (image w m t.p) (Some g.p))))
      (either_false (agree same (image w m t.s) (Some g.s)))
    where
      last : {a b c : Bool} → a ≡ true → b ≡ true → (a && b && c) ≡ false → c ≡ false
      last {a} {b} {c} p q r = (λ i. sym p i && sym q i && c) ∙ r

      either_false : (b : Bool) → (b ≡ false) ⊎ (b ≡ true)
      either_false true = inr refl
      either_false false = inl refl

  module _ (decides : (x y : T) → Decides (same x y) (x ≡ y)) where
    -- A scan gives each triple that agrees with the map once, and perhaps others. It extends the
    -- map to the same multiset as the whole graph.
    pub extend_by-scan : (w : ℕ) (t : TriplePattern T) (m : Solution T) (q : Triple T → Bool) → ((g : Triple T) → q g ≡ false → agrees_with same w t m g ≡ false)
        → (S G : List (Triple T)) → IsPermutation S (filter q G) → IsSameBag (filter_map (extend_by same w t m) S) (filter_map (extend_by same w t m) G)
    extend_by-scan w t m q covers S G h =
        subst (λ l. IsSameBag (filter_map (extend_by same w t m) S) l) (filter_map-of_filter (extend_by same w t m) q (λ g e. extend_by-apart w t m g (covers g e)) G)
        (IsPermutation-filter_map (same_solution same) (solution_decides same decides) (extend_by same w t m) S (filter q G) h)

    -- the same for the maps that extend m over all patterns, the first of which is t
    pub solve-scan : (w : ℕ) (t : TriplePattern T) (ts : List (TriplePattern T)) (m : Solution T) (q : Triple T → Bool) → ((g : Triple T) → q g ≡ false → agrees_with same w t m g ≡ false)
        → (S G : List (Triple T)) → IsPermutation S (filter q G) → IsSameBag (flat_map (solve same w ts G) (filter_map (extend_by same w t m) S)) (solve same w (t ∷ ts) G m)
    solve-scan w t ts m q covers S G h =
        IsPermutation-flat_map (same_solution same) (solution_decides same decides) (solve same w ts G) (filter_map (extend_by same w t m) S) (filter_map (extend_by same w t m) G) (extend_by-scan w t m q covers S G h)
