-- Under GRAPH with a variable, operators may be applied after the solutions of the graphs are joined
-- with the names of the graphs: Union, and if its condition does not mention the variable, Filter.
-- LeftJoin and Minus may be, if their right side is closed and does not bind the variable.
use Rattle.std.proofs.Common.{◌≡◌, ◌≢◌, ℕ, zero, suc, ◌<◌, Bool, true, false, cond, not, ◌&&◌, ◌||◌, List, [], ◌∷◌, ◌++◌, get_or, map, filter, flat_map, set, replicate, Option, None, Some, is_some, nat_eq, refl, sym, ap, ◌∙◌, subst, arith}
use Rattle.std.specs.List.{list_all}
use Rattle.std.proofs.lemmas.List.{append-nil, get_or-set_other}
use Rattle.std.proofs.lemmas.List.Concat.{flat_map-append}
use Rattle.std.proofs.lemmas.List.Elements.{filter-append}
use Rattle.std.proofs.lemmas.List.Sorted.{IsPermutation-refl}
use Rattle.rdf_core.specs.declared.term.Term.{Term}
use Rattle.rdf_core.specs.QuadParts.{QuadParts}
use Rattle.rdf_core.proofs.TermLaws.{term_eq, term_decides}
use Rattle.algebra_model.specs.Algebra.{Algebra, Filter, LeftJoin, Minus, Union}
use Rattle.algebra_model.specs.Bag.{IsSameBag}
use Rattle.algebra_model.specs.BooleanValue.{logical_and, logical_or, logical_not}
use Rattle.algebra_model.specs.Call.{boolean_term, call_value}
use Rattle.algebra_model.specs.Closed.{is_closed}
use Rattle.algebra_model.specs.Comparison.{compares}
use Rattle.algebra_model.specs.Eval.{eval, named}
use Rattle.algebra_model.specs.Expression.{Expression, variable, constant, either, both, negation, comparison, call, bound, same_term, boolean_result, holds, is_true, truth_of, val, with_value, with_values}
use Rattle.algebra_model.specs.Operators.{join, left_join, merges, minus, share}
use Rattle.algebra_model.specs.Renaming.{Each}
use Rattle.algebra_model.specs.Solution.{Solution, agree, bound_or, is_compatible, merge}
use Rattle.algebra_model.proofs.ClosedLaws.{closed-eval, join-outside}
use Rattle.sparql_eval.specs.Mentions.{may_bind, mentions}
use Rattle.sparql_eval.proofs.ClosedSteps.{interchanged}
use Rattle.sparql_eval.proofs.KeySteps.{get-merge}
use Rattle.sparql_eval.proofs.UnboundLaws.{Lacks, differ, eval_lacks, neither, unbound_lacks}

-- ---- a value depends only on the variables that the expression mentions

module _ (v : ℕ) (μ ρ : Solution Term) where
  -- the solutions are the same at the other variables
  abbrev pub AreAlikeElsewhere : Type 0
  AreAlikeElsewhere = (k : ℕ) → nat_eq k v ≡ false → get_or μ k None ≡ get_or ρ k None

  pub val_elsewhere : AreAlikeElsewhere → (e : Expression) → mentions e v ≡ false → val e μ ≡ val e ρ
  val_elsewhere h (variable u) m = h u m
  val_elsewhere h (constant t) m = refl
  val_elsewhere h (either a b) m =
      let p = neither (mentions a v) (mentions b v) m in
      λ i. boolean_result (logical_or (truth_of (val_elsewhere h a p.0 i)) (truth_of (val_elsewhere h b p.1 i)))
  val_elsewhere h (both a b) m =
      let p = neither (mentions a v) (mentions b v) m in
      λ i. boolean_result (logical_and (truth_of (val_elsewhere h a p.0 i)) (truth_of (val_elsewhere h b p.1 i)))
  val_elsewhere h (negation a) m = λ i. boolean_result (logical_not (truth_of (val_elsewhere h a m i)))
  val_elsewhere h (comparison op a b) m =
      let p = neither (mentions a v) (mentions b v) m in
      λ i. boolean_result (with_values (val_elsewhere h a p.0 i) (val_elsewhere h b p.1 i) (compares op))
  val_elsewhere h (call f a) m = λ i. with_value (val_elsewhere h a m i) (call_value f)
  val_elsewhere h (bound u) m = λ i. Some (boolean_term (is_some (h u m i)))
  val_elsewhere h (same_term a b) m =
      let p = neither (mentions a v) (mentions b v) m in
      λ i. boolean_result (with_values (val_elsewhere h a p.0 i) (val_elsewhere h b p.1 i) (λ s t. Some (term_eq s t)))

  pub holds_elsewhere : AreAlikeElsewhere → (e : Expression) → mentions e v ≡ false → holds e μ ≡ holds e ρ
  holds_elsewhere h e m = ap (λ (x : Option Term). is_true (truth_of x)) (val_elsewhere h e m)

-- ---- a solution that is joined with the name of a graph

only : (x : Option Term) → bound_or x None ≡ x
only None = refl
only (Some x) = refl

with_none : (x : Option Term) → agree term_eq x None ≡ true
with_none None = refl
with_none (Some x) = refl

-- a name binds no other variable
name_elsewhere : {T : Type 0} (w v : ℕ) (i : T) (k : ℕ) → k ≢ v → get_or (set (replicate w None) v (Some i)) k None ≡ None
name_elsewhere w v i k d = get_or-set_other (replicate w None) v k (Some i) None d ∙ unbound_lacks w k

module _ (w v : ℕ) (i : Term) where
  abbrev name_of : Solution Term
  name_of = set (replicate w None) v (Some i)

  pub merged_elsewhere : (μ : Solution Term) → AreAlikeElsewhere v (merge μ name_of) μ
  merged_elsewhere μ k h = get-merge μ name_of k ∙ ap (bound_or (get_or μ k None)) (name_elsewhere w v i k (differ k v h)) ∙ only (get_or μ k None)

  -- whatever it is merged with
  pub twice_elsewhere : (μ κ : Solution Term) → AreAlikeElsewhere v (merge (merge μ name_of) κ) (merge μ κ)
  twice_elsewhere μ κ k h = get-merge (merge μ name_of) κ k ∙ (λ j. bound_or (merged_elsewhere μ k h j) (get_or κ k None)) ∙ sym (get-merge μ κ k)

-- ---- the name of a graph, and solutions that leave the variable unbound

nones_compatible : (w : ℕ) (κ : Solution Term) → is_compatible term_eq (replicate w None) κ ≡ true
nones_compatible zero κ = refl
nones_compatible (suc w) [] = refl
nones_compatible (suc w) (z ∷ κ) = nones_compatible w κ

compatible_nones : (w : ℕ) (μ κ : Solution Term) → is_compatible term_eq (merge μ (replicate w None)) κ ≡ is_compatible term_eq μ κ
compatible_nones zero [] κ = refl
compatible_nones zero (x ∷ μ) κ = refl
compatible_nones (suc w) [] κ = nones_compatible (suc w) κ
compatible_nones (suc w) (x ∷ μ) [] = refl
compatible_nones (suc w) (x ∷ μ) (z ∷ κ) = λ j. agree term_eq (only x j) z && compatible_nones w μ κ j

nones_share : (w : ℕ) (κ : Solution Term) → share (replicate w None) κ ≡ false
nones_share zero κ = refl
nones_share (suc w) [] = refl
nones_share (suc w) (z ∷ κ) = nones_share w κ

share_nones : (w : ℕ) (μ κ : Solution Term) → share (merge μ (replicate w None)) κ ≡ share μ κ
share_nones zero [] κ = refl
share_nones zero (x ∷ μ) κ = refl
share_nones (suc w) [] κ = nones_share (suc w) κ
share_nones (suc w) (None ∷ μ) [] = refl
share_nones (suc w) (Some x ∷ μ) [] = refl
share_nones (suc w) (None ∷ μ) (z ∷ κ) = share_nones w μ κ
share_nones (suc w) (Some x ∷ μ) (None ∷ κ) = share_nones w μ κ
share_nones (suc w) (Some x ∷ μ) (Some z ∷ κ) = refl

module _ (i : Term) where
  compatible_name : (w v : ℕ) → v < w → (μ κ : Solution Term) → Lacks v κ → is_compatible term_eq (merge μ (set (replicate w None) v (Some i))) κ ≡ is_compatible term_eq μ κ
  compatible_name zero v low μ κ l = absurd (omega (arith, low))
  compatible_name (suc w) zero low [] [] l = refl
  compatible_name (suc w) zero low [] (z ∷ κ) l = (λ j. agree term_eq (Some i) (l j) && is_compatible term_eq (replicate w None) κ) ∙ nones_compatible w κ
  compatible_name (suc w) zero low (x ∷ μ) [] l = refl
  compatible_name (suc w) zero low (x ∷ μ) (z ∷ κ) l =
      (λ j. agree term_eq (bound_or x (Some i)) (l j) && compatible_nones w μ κ j)
      ∙ (λ j. (with_none (bound_or x (Some i)) ∙ sym (with_none x)) j && is_compatible term_eq μ κ)
      ∙ (λ j. agree term_eq x (sym l j) && is_compatible term_eq μ κ)
  compatible_name (suc w) (suc v) low [] [] l = refl
  compatible_name (suc w) (suc v) low [] (z ∷ κ) l = compatible_name w v (omega (arith, low)) [] κ l
  compatible_name (suc w) (suc v) low (x ∷ μ) [] l = refl
  compatible_name (suc w) (suc v) low (x ∷ μ) (z ∷ κ) l = λ j. agree term_eq (only x j) z && compatible_name w v (omega (arith, low)) μ κ l j

  share_name : (w v : ℕ) → v < w → (μ κ : Solution Term) → Lacks v κ → share (merge μ (set (replicate w None) v (Some i))) κ ≡ share μ κ
  share_name zero v low μ κ l = absurd (omega (arith, low))
  share_name (suc w) zero low [] [] l = refl
  share_name (suc w) zero low [] (None ∷ κ) l = nones_share w κ
  share_name (suc w) zero low [] (Some z ∷ κ) l = cc
  share_name (suc w) zero low (None ∷ μ) [] l = refl
  share_name (suc w) zero low (Some x ∷ μ) [] l = refl
  share_name (suc w) zero low (None ∷ μ) (None ∷ κ) l = share_nones w μ κ
  share_name (suc w) zero low (Some x ∷ μ) (None ∷ κ) l = share_nones w μ κ
  share_name (suc w) zero low (x ∷ μ) (Some z ∷ κ) l = cc
  share_name (suc w) (suc v) low [] [] l = refl
  share_name (suc w) (suc v) low [] (z ∷ κ) l = share_name w v (omega (arith, low)) [] κ l
  share_name (suc w) (suc v) low (None ∷ μ) [] l = refl
  share_name (suc w) (suc v) low (Some x ∷ μ) [] l = refl
  share_name (suc w) (suc v) low (None ∷ μ) (z ∷ κ) l = share_name w v (omega (arith, low)) μ κ l
  share_name (suc w) (suc v) low (Some x ∷ μ) (None ∷ κ) l = share_name w v (omega (arith, low)) μ κ l
  share_name (suc w) (suc v) low (Some x ∷ μ) (Some z ∷ κ) l = refl

-- the solutions of K on which the two operators depend
module _ (K : List (Solution Term)) where
  abbrev unmatched : (Solution Term → Bool) → Solution Term → Bool
  unmatched keeps μ = list_all (λ κ. not (is_compatible term_eq μ κ && keeps (merge μ κ))) K

  abbrev unshared : Solution Term → Bool
  unshared μ = list_all (λ κ. not (is_compatible term_eq μ κ) || not (share μ κ)) K

module _ (w v : ℕ) (low : v < w) (i : Term) where
  unmatched_name : (e : Expression) → mentions e v ≡ false → (K : List (Solution Term)) → Each (Lacks v) K → (μ : Solution Term)
      → unmatched K (holds e) (merge μ (set (replicate w None) v (Some i))) ≡ unmatched K (holds e) μ
  unmatched_name e m [] l μ = refl
  unmatched_name e m (κ ∷ K) l μ =
      λ j. not (compatible_name i w v low μ κ l.0 j && holds_elsewhere v (merge (merge μ (set (replicate w None) v (Some i))) κ) (merge μ κ) (twice_elsewhere w v i μ κ) e m j) && unmatched_name e m K l.1 μ j

  unshared_name : (K : List (Solution Term)) → Each (Lacks v) K → (μ : Solution Term) → unshared K (merge μ (set (replicate w None) v (Some i))) ≡ unshared K μ
  unshared_name [] l μ = refl
  unshared_name (κ ∷ K) l μ = λ j. (not (compatible_name i w v low μ κ l.0 j) || not (share_name i w v low μ κ l.0 j)) && unshared_name K l.1 μ j

-- ---- a filter of solutions that are joined with one solution

module _ (ν : Solution Term) (p : Solution Term → Bool) (so : (μ : Solution Term) → is_compatible term_eq μ ν ≡ true → p (merge μ ν) ≡ p μ) where
  one_filtered : (μ : Solution Term) → filter p (merges term_eq μ (ν ∷ [])) ≡ cond (p μ) (merges term_eq μ (ν ∷ [])) []
  one_filtered μ = by (is_compatible term_eq μ ν) refl
    where
      either_way : (b : Bool) (Y : List (Solution Term)) → Y ≡ cond b Y Y
      either_way true Y = refl
      either_way false Y = refl

      by : (c : Bool) → is_compatible term_eq μ ν ≡ c → filter p (map (merge μ) (cond c (ν ∷ []) [])) ≡ cond (p μ) (map (merge μ) (cond c (ν ∷ []) [])) []
      by true h = ap (λ (b : Bool). cond b (merge μ ν ∷ []) []) (so μ h)
      by false h = either_way (p μ) []

  pub filter_joined : (X : List (Solution Term)) → join term_eq (filter p X) (ν ∷ []) ≡ filter p (join term_eq X (ν ∷ []))
  filter_joined [] = refl
  filter_joined (μ ∷ X) =
      front (p μ) (filter p X) ∙ (λ j. sym (one_filtered μ) j ++ filter_joined X j)
      ∙ sym (filter-append p (merges term_eq μ (ν ∷ [])) (join term_eq X (ν ∷ [])))
    where
      front : (b : Bool) (Y : List (Solution Term)) → join term_eq (cond b (μ ∷ Y) Y) (ν ∷ []) ≡ cond b (merges term_eq μ (ν ∷ [])) [] ++ join term_eq Y (ν ∷ [])
      front true Y = refl
      front false Y = refl

-- ---- operators after the names

module _ (w : ℕ) (D : List QuadParts) (v : ℕ) where
  abbrev in_each : List Term → Algebra → List (Solution Term)
  in_each is A = flat_map (λ i. join term_eq (eval w D (Some i) A) (named w v i)) is

  pub filter_in : (e : Expression) (A : Algebra) → mentions e v ≡ false → (is : List Term) → in_each is (Filter e A) ≡ filter (holds e) (in_each is A)
  filter_in e A m [] = refl
  filter_in e A m (i ∷ is) =
      (λ j. filter_joined (set (replicate w None) v (Some i)) (holds e)
      (λ μ c. holds_elsewhere v (merge μ (set (replicate w None) v (Some i))) μ (merged_elsewhere w v i μ) e m) (eval w D (Some i) A) j ++ filter_in e A m is j)
      ∙ sym (filter-append (holds e) (join term_eq (eval w D (Some i) A) (named w v i)) (in_each is A))

  pub union_in : (A B : Algebra) (is : List Term) → IsSameBag (in_each is (Union A B)) (in_each is A ++ in_each is B)
  union_in A B [] = IsPermutation-refl []
  union_in A B (i ∷ is) =
      let a = join term_eq (eval w D (Some i) A) (named w v i) in
      let b = join term_eq (eval w D (Some i) B) (named w v i) in
      subst (λ l. IsSameBag (l ++ in_each is (Union A B)) ((a ++ in_each is A) ++ (b ++ in_each is B)))
      (sym (flat_map-append (λ μ. merges term_eq μ (named w v i)) (eval w D (Some i) A) (eval w D (Some i) B)))
      (interchanged term_eq term_decides a b (in_each is A) (in_each is B) (in_each is (Union A B)) (union_in A B is))

  swapped : (X K : List (Solution Term)) (ν : Solution Term) → join term_eq (join term_eq X K) (ν ∷ []) ≡ join term_eq (join term_eq X (ν ∷ [])) K
  swapped X K ν =
      sym (append-nil (join term_eq (join term_eq X K) (ν ∷ []))) ∙ join-outside term_eq term_decides K (λ (u : Unit {0}). X) (λ (u : Unit {0}). ν) (tt ∷ [])
      ∙ ap (λ (l : List (Solution Term)). join term_eq l K) (append-nil (join term_eq X (ν ∷ [])))

  module _ (low : v < w) (A C : Algebra) (c : is_closed C ≡ true) (n : may_bind w C v ≡ false) where
    abbrev of_closed : List (Solution Term)
    of_closed = eval w D None C

    lacking : Each (Lacks v) of_closed
    lacking = eval_lacks w D v None C n

    abbrev name_at : Term → Solution Term
    name_at i = set (replicate w None) v (Some i)

    pub minus_in : (is : List Term) → in_each is (Minus A C) ≡ minus term_eq (in_each is A) of_closed
    minus_in [] = refl
    minus_in (i ∷ is) =
        (λ j. join term_eq (minus term_eq (eval w D (Some i) A) (closed-eval w D (Some i) None C c j)) (named w v i) ++ in_each is (Minus A C))
        ∙ (λ j. filter_joined (name_at i) (unshared of_closed) (λ μ k. unshared_name w v low i of_closed lacking μ) (eval w D (Some i) A) j ++ minus_in is j)
        ∙ sym (filter-append (unshared of_closed) (join term_eq (eval w D (Some i) A) (named w v i)) (in_each is A))

    module _ (e : Expression) (m : mentions e v ≡ false) where
      here : (i : Term) → join term_eq (left_join term_eq (holds e) (eval w D (Some i) A) (eval w D (Some i) C)) (named w v i)
          ≡ left_join term_eq (holds e) (join term_eq (eval w D (Some i) A) (named w v i)) of_closed
      here i =
          let X = eval w D (Some i) A in
          (λ j. join term_eq (left_join term_eq (holds e) X (closed-eval w D (Some i) None C c j)) (named w v i))
          ∙ flat_map-append (λ μ. merges term_eq μ (named w v i)) (filter (holds e) (join term_eq X of_closed)) (filter (unmatched of_closed (holds e)) X)
          ∙ (λ j. filter_joined (name_at i) (holds e) (λ μ k. holds_elsewhere v (merge μ (name_at i)) μ (merged_elsewhere w v i μ) e m) (join term_eq X of_closed) j
          ++ filter_joined (name_at i) (unmatched of_closed (holds e)) (λ μ k. unmatched_name w v low i e m of_closed lacking μ) X j)
          ∙ (λ j. filter (holds e) (swapped X of_closed (name_at i) j) ++ filter (unmatched of_closed (holds e)) (join term_eq X (named w v i)))

      both_parts : (A B : List (Solution Term)) → left_join term_eq (holds e) (A ++ B) of_closed
          ≡ (filter (holds e) (join term_eq A of_closed) ++ filter (holds e) (join term_eq B of_closed)) ++ (filter (unmatched of_closed (holds e)) A ++ filter (unmatched of_closed (holds e)) B)
      both_parts A B =
          λ j. (ap (filter (holds e)) (flat_map-append (λ μ. merges term_eq μ of_closed) A B) ∙ filter-append (holds e) (join term_eq A of_closed) (join term_eq B of_closed)) j
          ++ filter-append (unmatched of_closed (holds e)) A B j

      pub left_join_in : (is : List Term) → IsSameBag (in_each is (LeftJoin A C e)) (left_join term_eq (holds e) (in_each is A) of_closed)
      left_join_in [] = IsPermutation-refl []
      left_join_in (i ∷ is) =
          let X = join term_eq (eval w D (Some i) A) (named w v i) in
          let N = in_each is A in
          let R = in_each is (LeftJoin A C e) in
          subst (λ l. IsSameBag (l ++ R) (left_join term_eq (holds e) (X ++ N) of_closed)) (sym (here i))
          (subst (λ l. IsSameBag (left_join term_eq (holds e) X of_closed ++ R) l) (sym (both_parts X N))
          (interchanged term_eq term_decides (filter (holds e) (join term_eq X of_closed)) (filter (unmatched of_closed (holds e)) X)
          (filter (holds e) (join term_eq N of_closed)) (filter (unmatched of_closed (holds e)) N) R (left_join_in is)))
