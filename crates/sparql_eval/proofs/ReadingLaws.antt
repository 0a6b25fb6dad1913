-- Rows read through a dictionary, and through one that begins with it.
use Rattle.std.proofs.Common.{◌≡◌, ℕ, zero, suc, ◌<◌, ◌≤◌, true, List, [], ◌∷◌, ◌++◌, length, map, set, take, get_or, slice_get, Option, None, Some, is_some, option_map, nat_eq, Contains, refl, sym, ap, ◌∙◌, subst, arith, append_assoc, append-nil}
use Rattle.std.proofs.lemmas.List.{map-set}
use Rattle.algebra_model.specs.Operators.{bind}
use Rattle.algebra_model.proofs.BagLaws.{same_bag}
use Rattle.algebra_model.proofs.RangeLaws.{OfOption, set-bound}
use Rattle.algebra_model.proofs.ReadingLaws.{bound_at}
use Rattle.dict_core.proofs.MergingSteps.{interned}
use Rattle.row_core.specs.RowList.{RowList}
use Rattle.sparql_eval.specs.Evaluated.{IsEvaluated}
use Rattle.sparql_eval.specs.Numbered.{IsKnownCell, IsKnownAt, AreKnownAt}
use Rattle.rdf_core.specs.declared.term.Term.{Term}
use Rattle.rdf_core.specs.declared.term.Term.TheVariants.{Blank}
use Rattle.rdf_core.proofs.TermLaws.{term_eq}
use Rattle.algebra_model.specs.Solution.{Solution}
use Rattle.algebra_model.specs.Laws.{IsReading}
use Rattle.algebra_model.specs.Renaming.{Each, EachBound, read_row}
use Rattle.algebra_model.proofs.NumberLaws.{equal_when_read}
use Rattle.dict_core.specs.Dict.{AreDistinct, IsGrown, term_at}
use Rattle.dict_core.proofs.InsertLaws.{get-grown, grown}
use Rattle.dict_core.proofs.NumberingLaws.{number_reads, get-below}

pub grown_itself : (terms : List Term) → IsGrown terms terms
grown_itself terms = ([], sym (append-nil terms))

pub grown_twice : (a b c : List Term) → IsGrown a b → IsGrown b c → IsGrown a c
grown_twice a b c h k = (h.0 ++ k.0, k.1 ∙ ap (λ l. l ++ k.0) h.1 ∙ append_assoc a h.0 k.0)

-- every number of the row is the number of a term
abbrev pub Known : List Term → Solution ℕ → Type 0
Known terms μ = EachBound (λ n. n < length terms) μ

abbrev pub read_by : List Term → Solution ℕ → Solution Term
read_by terms μ = read_row (term_at terms) μ

module _ (terms terms' : List Term) (grown : IsGrown terms terms') where
  pub number_kept : (n : ℕ) → n < length terms → (n < length terms') × (term_at terms' n ≡ term_at terms n)
  number_kept n below = number_reads terms' n (term_at terms n) (get-grown terms terms' grown n (term_at terms n) (get-below terms n below))

  pub row_kept : (μ : Solution ℕ) → Known terms μ → Known terms' μ × (read_by terms' μ ≡ read_by terms μ)
  row_kept [] h = (tt, refl)
  row_kept (None ∷ μ) h = let r = row_kept μ h in (r.0, ap (λ l. None ∷ l) r.1)
  row_kept (Some n ∷ μ) h =
      let k = number_kept n h.0 in
      let r = row_kept μ h.1 in
      ((k.0, r.0), λ i. Some (k.1 i) ∷ r.1 i)

  pub rows_kept : (A : List (Solution ℕ)) → Each (Known terms) A → Each (Known terms') A × (map (read_by terms') A ≡ map (read_by terms) A)
  rows_kept [] h = (tt, refl)
  rows_kept (μ ∷ A) h =
      let r = row_kept μ h.0 in
      let rs = rows_kept A h.1 in
      ((r.0, rs.0), λ i. r.1 i ∷ rs.1 i)

-- different numbers have different terms
pub apart : (terms : List Term) → AreDistinct terms → IsReading (length terms) (term_at terms)
apart terms h x y low high e =
    let p : x < y → ⊥ = λ l. h x y (Blank []) l high e in
    let q : y < x → ⊥ = λ l. h y x (Blank []) l low (sym e) in
    omega arith

-- so two numbers are equal exactly if their terms are equal
pub equal_by_number : (terms : List Term) → AreDistinct terms → (x y : ℕ) → x < length terms → y < length terms → term_eq (term_at terms x) (term_at terms y) ≡ nat_eq x y
equal_by_number terms h = equal_when_read (length terms) (term_at terms) (apart terms h)

-- a term that was added
pub grown_interned : (old new : List Term) (t : Term) → (Contains old t → new ≡ old) → ((Contains old t → ⊥) → new ≡ old ++ t ∷ []) → IsGrown old new
grown_interned old new t known fresh = subst (IsGrown old) (sym (interned old new t known fresh)) (grown old (t ∷ []))

-- ---- known numbers, variable by variable

pub Each-at : {X : Type 0} (P : X → Type 0) (xs : List X) (i : ℕ) (x : X) → Each P xs → slice_get xs i ≡ Some x → P x
Each-at P [] i x h e = cc
Each-at P (y ∷ xs) zero x h e = let p : y ≡ x = cc in subst P p h.0
Each-at P (y ∷ xs) (suc i) x h e = Each-at P xs i x h.1 e

pub rows_known_at : (terms : List Term) (A : List (Solution ℕ)) → Each (Known terms) A → AreKnownAt terms A
rows_known_at terms A h i μ e k n f = bound_at (λ n. n < length terms) μ k n (Each-at (Known terms) A i μ h e) f

pub row_known : (terms : List Term) (μ : Solution ℕ) → IsKnownAt terms μ → Known terms μ
row_known terms [] h = tt
row_known terms (None ∷ μ) h = row_known terms μ (λ k n e. h (suc k) n e)
row_known terms (Some x ∷ μ) h = (h 0 x refl, row_known terms μ (λ k n e. h (suc k) n e))

-- ---- one cell of a row

cell_in : (terms : List Term) (n : Option ℕ) → IsKnownCell terms n → OfOption (λ n. n < length terms) n
cell_in terms None h = h
cell_in terms (Some n) h = h

pub set_known : (terms : List Term) (μ : Solution ℕ) (v : ℕ) (n : Option ℕ) → IsKnownCell terms n → Known terms μ → Known terms (set μ v n)
set_known terms μ v n h k = set-bound (λ n. n < length terms) μ v n (cell_in terms n h) k

pub set_read : (terms : List Term) (μ : Solution ℕ) (v : ℕ) (n : Option ℕ) → read_by terms (set μ v n) ≡ set (read_by terms μ) v (option_map (term_at terms) n)
set_read terms μ v n = map-set (option_map (term_at terms)) μ v n

-- binding a variable that is unbound sets its cell
pub bind_open : {T : Type 0} (v : ℕ) (t : Option T) (μ : Solution T) → get_or μ v None ≡ None → set μ v t ≡ bind v t μ
bind_open v t [] e = set_nil v t
  where
    set_nil : {X : Type 0} (v : ℕ) (x : X) → set [] v x ≡ []
    set_nil zero x = refl
    set_nil (suc v) x = refl
bind_open zero t (None ∷ μ) e = refl
bind_open zero t (Some x ∷ μ) e = cc
bind_open (suc v) t (x ∷ μ) e = ap (λ r. x ∷ r) (bind_open v t μ e)

-- binding a variable that is bound changes nothing
pub bind_bound : {T : Type 0} (v : ℕ) (t : Option T) (μ : Solution T) → is_some (get_or μ v None) ≡ true → bind v t μ ≡ μ
bind_bound v t [] e = refl
bind_bound zero t (None ∷ μ) e = cc
bind_bound zero t (Some x ∷ μ) e = refl
bind_bound (suc v) t (x ∷ μ) e = ap (λ r. x ∷ r) (bind_bound v t μ e)

-- ---- the result of an operator that leaves the dictionary unchanged

pub evaluated : (terms : List Term) (width : ℕ) (A : List (Solution Term)) (made : RowList) → made.width ≡ width → Each (Known terms) made.rows → map (read_by terms) made.rows ≡ A → IsEvaluated terms width A made terms
evaluated terms width A made wide known read = record { grown = grown_itself terms; wide = wide; known = known; bag = same_bag (map (read_by terms) made.rows) A read }

pub number_known : (terms : List Term) (n : ℕ) (t : Term) → slice_get terms n ≡ Some t → n < length terms
number_known terms n t h = (number_reads terms n t h).0

pub number_read : (terms : List Term) (n : ℕ) (t : Term) → slice_get terms n ≡ Some t → term_at terms n ≡ t
number_read terms n t h = (number_reads terms n t h).1

-- the term in a cell of a row
pub get_read : (terms : List Term) (μ : Solution ℕ) (k n : ℕ) (t : Term) → get_or μ k None ≡ Some n → slice_get terms n ≡ Some t → Some t ≡ get_or (read_by terms μ) k None
get_read terms [] k n t e h = cc
get_read terms (None ∷ μ) zero n t e h = cc
get_read terms (Some x ∷ μ) zero n t e h =
    let p : x ≡ n = cc in ap Some (sym (number_read terms n t h)) ∙ ap (λ m. Some (term_at terms m)) (sym p)
get_read terms (None ∷ μ) (suc k) n t e h = get_read terms μ k n t e h
get_read terms (Some x ∷ μ) (suc k) n t e h = get_read terms μ k n t e h

pub all_taken : {X : Type 0} (xs : List X) (n : ℕ) → length xs ≤ n → take n xs ≡ xs
all_taken [] zero h = refl
all_taken [] (suc n) h = refl
all_taken (x ∷ xs) zero h = absurd (omega arith)
all_taken (x ∷ xs) (suc n) h = ap (λ r. x ∷ r) (all_taken xs n (omega arith))
