-- LeftJoin, Extend, Project, Distinct, Union and tables commute with a reading that maps distinct
-- terms to distinct terms. (Join, Minus and Filter: ReadingLaws.)
use Rattle.std.proofs.Common.{◌≡◌, ℕ, zero, suc, Bool, true, false, not, ◌&&◌, ◌==◌, List, [], ◌∷◌, ◌++◌, set, replicate, map, filter, Option, None, Some, option_map, if◌then◌else◌, refl, sym, ap, ◌∙◌}
use Rattle.std.specs.List.{list_any}
use Rattle.std.proofs.lemmas.List.{map-append, map-set}
use Rattle.algebra_model.specs.Solution.{Solution, same_solution, merge}
use Rattle.algebra_model.specs.Operators.{join, left_join, distinct, extend, bind, project, restrict, table, table_row}
use Rattle.algebra_model.specs.Renaming.{Each, EachBound, read_row}
use Rattle.algebra_model.specs.Solve.{alone}
use Rattle.algebra_model.proofs.ReadingLaws.{merge-read, is_compatible-read, join-read, filter-read}
use Rattle.algebra_model.proofs.RangeLaws.{merge-bound, join-bound, Each-without_repeats}

module _ {A B : Type 0} (sa : A → A → Bool) (sb : B → B → Bool) (In : A → Type 0) (f : A → B) (one : (x y : A) → In x → In y → sb (f x) (f y) ≡ sa x y) where
  alone-read : (p : Solution B → Bool) (q : Solution A → Bool) → ((μ : Solution A) → EachBound In μ → p (read_row f μ) ≡ q μ)
      → (μ : Solution A) → EachBound In μ → (R : List (Solution A)) → Each (EachBound In) R → alone sb p (map (read_row f) R) (read_row f μ) ≡ alone sa q R μ
  alone-read p q e μ h [] k = refl
  alone-read p q e μ h (ν ∷ R) k =
      λ i. not (is_compatible-read sa sb In f one μ ν h k.0 i && (ap p (merge-read sa sb In f one μ ν) ∙ e (merge μ ν) (merge-bound In μ ν h k.0)) i) && alone-read p q e μ h R k.1 i

  pub left_join-read : (p : Solution B → Bool) (q : Solution A → Bool) → ((μ : Solution A) → EachBound In μ → p (read_row f μ) ≡ q μ)
      → (L R : List (Solution A)) → Each (EachBound In) L → Each (EachBound In) R → left_join sb p (map (read_row f) L) (map (read_row f) R) ≡ map (read_row f) (left_join sa q L R)
  left_join-read p q e L R h k =
      (λ i. (ap (filter p) (join-read sa sb In f one L R h k) ∙ filter-read sa sb In f one p q e (join sa L R) (join-bound In sa L R h k)) i
      ++ filter-read sa sb In f one (alone sb p (map (read_row f) R)) (alone sa q R) (λ μ m. alone-read p q e μ m R k) L h i)
      ∙ sym (map-append (read_row f) (filter q (join sa L R)) (filter (alone sa q R) L))

  pub bind-read : (v : ℕ) (t : Option A) (μ : Solution A) → bind v (option_map f t) (read_row f μ) ≡ read_row f (bind v t μ)
  bind-read v t [] = refl
  bind-read zero t (None ∷ μ) = refl
  bind-read zero t (Some x ∷ μ) = refl
  bind-read (suc v) t (x ∷ μ) = ap (λ r. option_map f x ∷ r) (bind-read v t μ)

  pub extend-read : (v : ℕ) (p : Solution B → Option B) (q : Solution A → Option A) (L : List (Solution A)) → Each (λ μ. p (read_row f μ) ≡ option_map f (q μ)) L
      → extend v p (map (read_row f) L) ≡ map (read_row f) (extend v q L)
  extend-read v p q [] e = refl
  extend-read v p q (μ ∷ L) e = λ i. (ap (λ t. bind v t (read_row f μ)) e.0 ∙ bind-read v (q μ) μ) i ∷ extend-read v p q L e.1 i

  pub restrict-read : (keeps : ℕ → Bool) (μ : Solution A) → restrict keeps (read_row f μ) ≡ read_row f (restrict keeps μ)
  restrict-read keeps [] = refl
  restrict-read keeps (x ∷ μ) = λ i. kept (keeps 0) x i ∷ restrict-read (λ k. keeps (suc k)) μ i
    where
      kept : (b : Bool) (x : Option A) → (if b then option_map f x else None) ≡ option_map f (if b then x else None)
      kept true x = refl
      kept false x = refl

  pub project-read : (vs : List ℕ) (L : List (Solution A)) → project vs (map (read_row f) L) ≡ map (read_row f) (project vs L)
  project-read vs [] = refl
  project-read vs (μ ∷ L) = λ i. restrict-read (λ v. list_any (λ u. u == v) vs) μ i ∷ project-read vs L i

  pub union-read : (L R : List (Solution A)) → map (read_row f) L ++ map (read_row f) R ≡ map (read_row f) (L ++ R)
  union-read L R = sym (map-append (read_row f) L R)

  pub same_solution-read : (μ ν : Solution A) → EachBound In μ → EachBound In ν → same_solution sb (read_row f μ) (read_row f ν) ≡ same_solution sa μ ν
  same_solution-read [] [] h k = refl
  same_solution-read [] (y ∷ ν) h k = refl
  same_solution-read (x ∷ μ) [] h k = refl
  same_solution-read (None ∷ μ) (None ∷ ν) h k = same_solution-read μ ν h k
  same_solution-read (None ∷ μ) (Some y ∷ ν) h k = refl
  same_solution-read (Some x ∷ μ) (None ∷ ν) h k = refl
  same_solution-read (Some x ∷ μ) (Some y ∷ ν) h k = λ i. one x y h.0 k.0 i && same_solution-read μ ν h.1 k.1 i

  pub distinct-read : (L : List (Solution A)) → Each (EachBound In) L → distinct sb (map (read_row f) L) ≡ map (read_row f) (distinct sa L)
  distinct-read [] h = refl
  distinct-read (μ ∷ L) h =
      ap (λ r. read_row f μ ∷ r)
      (ap (filter (λ y. not (same_solution sb (read_row f μ) y))) (distinct-read L h.1)
      ∙ filter-read sa sb In f one (λ y. not (same_solution sb (read_row f μ) y)) (λ y. not (same_solution sa μ y)) (λ ν k. ap not (same_solution-read μ ν h.0 k)) (distinct sa L) (Each-without_repeats (EachBound In) (same_solution sa) L h.1))

  pub unbound-read : (n : ℕ) → replicate n None ≡ read_row f (replicate n None)
  unbound-read zero = refl
  unbound-read (suc n) = ap (λ r. None ∷ r) (unbound-read n)

  pub table_row-read : (w : ℕ) (vs : List ℕ) (cells : List (Option A)) → table_row w vs (read_row f cells) ≡ read_row f (table_row w vs cells)
  table_row-read w [] cells = unbound-read w
  table_row-read w (v ∷ vs) [] = unbound-read w
  table_row-read w (v ∷ vs) (x ∷ cells) = ap (λ r. set r v (option_map f x)) (table_row-read w vs cells) ∙ sym (map-set (option_map f) (table_row w vs cells) v x)

  pub table-read : (w : ℕ) (vs : List ℕ) (rows : List (List (Option A))) → table w vs (map (read_row f) rows) ≡ map (read_row f) (table w vs rows)
  table-read w vs [] = refl
  table-read w vs (r ∷ rows) = λ i. table_row-read w vs r i ∷ table-read w vs rows i
