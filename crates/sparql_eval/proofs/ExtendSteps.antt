-- Extend: rows of numbers with one more variable bound, and the solutions that they represent.
use Rattle.std.proofs.Common.{◌≡◌, ℕ, zero, suc, ◌+◌, ◌<◌, true, false, not, List, [], ◌∷◌, ◌++◌, length, set, take, map, get_or, slice_get, Option, None, Some, is_some, option_map, refl, sym, ap, ◌∙◌, add-one}
use Rattle.rdf_core.specs.declared.term.Term.{Term}
use Rattle.algebra_model.specs.Operators.{bind, extend}
use Rattle.algebra_model.specs.Renaming.{Each}
use Rattle.algebra_model.specs.Solution.{Solution}
use Rattle.algebra_model.proofs.RangeLaws.{OfOption, bind-bound}
use Rattle.dict_core.specs.Dict.{IsGrown, term_at}
use Rattle.sparql_eval.specs.Values.{bind_each}
use Rattle.sparql_eval.proofs.ReadingLaws.{Known, read_by, row_kept, bind_open, bind_bound}

-- ---- one row

open_there : {X : Type 0} (x : Option X) → not (is_some x) ≡ true → x ≡ None
open_there None e = refl
open_there (Some x) e = cc

bound_there : {X : Type 0} (x : Option X) → not (is_some x) ≡ false → is_some x ≡ true
bound_there None e = cc
bound_there (Some x) e = refl

pub put_open : (row new : Solution ℕ) (v : ℕ) (n : Option ℕ) → new ≡ row → not (is_some (get_or row v None)) ≡ true → set new v n ≡ bind v n row
put_open row new v n e unbound = ap (λ l. set l v n) e ∙ bind_open v n row (open_there (get_or row v None) unbound)

pub left_bound : (row new : Solution ℕ) (v : ℕ) (n : Option ℕ) → new ≡ row → not (is_some (get_or row v None)) ≡ false → new ≡ bind v n row
left_bound row new v n e bound = e ∙ sym (bind_bound v n row (bound_there (get_or row v None) bound))

pub bind_long : (v : ℕ) (n : Option ℕ) (μ : Solution ℕ) → length (bind v n μ) ≡ length μ
bind_long v n [] = refl
bind_long zero n (None ∷ μ) = refl
bind_long zero n (Some x ∷ μ) = refl
bind_long (suc v) n (x ∷ μ) = ap suc (bind_long v n μ)

-- ---- all rows

-- one more row
pub bind_more : (v : ℕ) (ns : List (Option ℕ)) (A : List (Solution ℕ)) (i : ℕ) (n : Option ℕ) (μ : Solution ℕ) → slice_get ns i ≡ Some n → slice_get A i ≡ Some μ
    → bind_each v (take (i + 1) ns) (take (i + 1) A) ≡ bind_each v (take i ns) (take i A) ++ bind v n μ ∷ []
bind_more v ns A i n μ at at' = rw add-one (by ns A i at at')
  where
    by : (ns : List (Option ℕ)) (A : List (Solution ℕ)) (i : ℕ) → slice_get ns i ≡ Some n → slice_get A i ≡ Some μ
        → bind_each v (take (suc i) ns) (take (suc i) A) ≡ bind_each v (take i ns) (take i A) ++ bind v n μ ∷ []
    by [] A i at at' = cc
    by (m ∷ ns) [] i at at' = cc
    by (m ∷ ns) (ν ∷ A) zero at at' =
        let p : m ≡ n = cc in
        let q : ν ≡ μ = cc in
        λ j. bind v (p j) (q j) ∷ []
    by (m ∷ ns) (ν ∷ A) (suc i) at at' = ap (λ l. bind v m ν ∷ l) (by ns A i at at')

bind_read : (terms : List Term) (v : ℕ) (n : Option ℕ) (μ : Solution ℕ) → read_by terms (bind v n μ) ≡ bind v (option_map (term_at terms) n) (read_by terms μ)
bind_read terms v n [] = refl
bind_read terms zero n (None ∷ μ) = refl
bind_read terms zero n (Some x ∷ μ) = refl
bind_read terms (suc v) n (None ∷ μ) = ap (λ l. None ∷ l) (bind_read terms v n μ)
bind_read terms (suc v) n (Some x ∷ μ) = ap (λ l. Some (term_at terms x) ∷ l) (bind_read terms v n μ)

first_known : (terms : List Term) (n : Option ℕ) (ns : List (Option ℕ)) → Known terms (n ∷ ns) → OfOption (λ x. x < length terms) n × Known terms ns
first_known terms None ns h = (tt, h)
first_known terms (Some n) ns h = h

-- numbers whose terms are the values of the rows extend the rows by these values
pub bind_extends : (terms later : List Term) → IsGrown terms later → (v : ℕ) (value : Solution Term → Option Term) (ns : List (Option ℕ)) (A : List (Solution ℕ))
    → Known later ns → Each (Known terms) A → read_by later ns ≡ map (λ μ. value (read_by terms μ)) A
    → Each (Known later) (bind_each v ns A) × (map (read_by later) (bind_each v ns A) ≡ extend v value (map (read_by terms) A))
bind_extends terms later g v value [] [] known all e = (tt, refl)
bind_extends terms later g v value [] (μ ∷ A) known all e = cc
bind_extends terms later g v value (n ∷ ns) [] known all e = cc
bind_extends terms later g v value (n ∷ ns) (μ ∷ A) known all e =
    let here : option_map (term_at later) n ≡ value (read_by terms μ) = cc in
    let n_known = first_known later n ns known in
    let μ_kept = row_kept terms later g μ all.0 in
    let rest = bind_extends terms later g v value ns A n_known.1 all.1 cc in (
      (bind-bound (λ x. x < length later) v n μ n_known.0 μ_kept.0, rest.0),
      λ i. (bind_read later v n μ ∙ (λ j. bind v (here j) (μ_kept.1 j))) i ∷ rest.1 i,
    )

-- as many numbers as rows
pub as_many : {X Y Z : Type 0} (f : X → Z) (g : Y → Z) (xs : List X) (ys : List Y) → map f xs ≡ map g ys → length xs ≡ length ys
as_many f g [] [] e = refl
as_many f g [] (y ∷ ys) e = cc
as_many f g (x ∷ xs) [] e = cc
as_many f g (x ∷ xs) (y ∷ ys) e = ap suc (as_many f g xs ys cc)
