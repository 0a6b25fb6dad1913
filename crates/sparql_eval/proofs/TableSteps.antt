-- Tables, from the last cell of a row to the first, and row by row.
use Rattle.std.proofs.Common.{◌≡◌, ℕ, zero, suc, ◌+◌, ◌-◌, ◌<◌, List, [], ◌∷◌, ◌++◌, length, take, drop, set, replicate, map, get_or, slice_get, Option, None, Some, option_map, Contains, refl, sym, ap, ◌∙◌, subst, arith, add-one}
use Rattle.rdf_core.specs.declared.term.Term.{Term}
use Rattle.algebra_model.specs.Operators.{table, table_row}
use Rattle.algebra_model.specs.Solution.{Solution}
use Rattle.algebra_model.specs.Renaming.{Each}
use Rattle.algebra_model.proofs.RangeLaws.{unbound-bound, Each-append}
use Rattle.std.proofs.lemmas.List.{map-append}
use Rattle.std.proofs.lemmas.Option.{slice_get-get_or, slice_get-map}
use Rattle.dict_core.specs.Dict.{IsGrown, term_at}
use Rattle.sparql_eval.specs.Computed.{IsCell}
use Rattle.sparql_eval.specs.Numbered.{IsKnownCell}
use Rattle.sparql_eval.proofs.ReadingLaws.{Known, read_by, row_kept, rows_kept, set_known, set_read}
use Rattle.sparql_eval.proofs.TakingLaws.{Contains-flat_map}

pub drop_at : {X : Type 0} (xs : List X) (i : ℕ) (x : X) → slice_get xs i ≡ Some x → drop i xs ≡ x ∷ drop (i + 1) xs
drop_at {X} xs i x e = rw add-one (by xs i e)
  where
    by : (xs : List X) (i : ℕ) → slice_get xs i ≡ Some x → drop i xs ≡ x ∷ drop (suc i) xs
    by [] i e = cc
    by (y ∷ xs) zero e = let p : y ≡ x = cc in ap (λ z. z ∷ xs) p
    by (y ∷ xs) (suc i) e = by xs i e

table_row-none : (w : ℕ) (vs : List ℕ) → table_row {T = Term} w vs [] ≡ replicate w None
table_row-none w [] = refl
table_row-none w (v ∷ vs) = refl

-- after the last cell, or the last variable, nothing is bound
pub table_row-end : (w : ℕ) (vs : List ℕ) (cells : List (Option Term)) (n : ℕ) → (n < length vs → n < length cells → ⊥) → table_row w (drop n vs) (drop n cells) ≡ replicate w None
table_row-end w [] cells zero h = refl
table_row-end w (v ∷ vs) [] zero h = refl
table_row-end w (v ∷ vs) (x ∷ cells) zero h = absurd (h (omega arith) (omega arith))
table_row-end w [] cells (suc n) h = refl
table_row-end w (v ∷ vs) [] (suc n) h = table_row-none w (drop n vs)
table_row-end w (v ∷ vs) (x ∷ cells) (suc n) h = table_row-end w vs cells n (λ a b. h (omega arith) (omega arith))

pub table_row-step : (w : ℕ) (vs : List ℕ) (cells : List (Option Term)) (i v : ℕ) (x : Option Term) → slice_get vs i ≡ Some v → slice_get cells i ≡ Some x
    → table_row w (drop i vs) (drop i cells) ≡ set (table_row w (drop (i + 1) vs) (drop (i + 1) cells)) v x
table_row-step w vs cells i v x e h = λ j. table_row w (drop_at vs i v e j) (drop_at cells i x h j)

unbound_read : (terms : List Term) (w : ℕ) → read_by terms (replicate w None) ≡ replicate w None
unbound_read terms zero = refl
unbound_read terms (suc w) = ap (λ r. None ∷ r) (unbound_read terms w)

pub row_begins : (terms : List Term) (w : ℕ) (row : Solution ℕ) → row ≡ replicate w None → Known terms row × (read_by terms row ≡ replicate w None)
row_begins terms w row e =
    (subst (Known terms) (sym e) (unbound-bound (λ n. n < length terms) w), ap (read_by terms) e ∙ unbound_read terms w)

-- one more cell
pub row_more : (terms terms' : List Term) → IsGrown terms terms' → (row : Solution ℕ) (v : ℕ) (n : Option ℕ) (x : Option Term) → Known terms row → IsKnownCell terms' n → option_map (term_at terms') n ≡ x
    → Known terms' (set row v n) × (read_by terms' (set row v n) ≡ set (read_by terms row) v x)
row_more terms terms' g row v n x k c e =
    let r = row_kept terms terms' g row k in
    (set_known terms' row v n c r.0, set_read terms' row v n ∙ (λ i. set (r.1 i) v (e i)))

-- ---- the invariants of the loops

none_taken : {X : Type 0} (w : ℕ) → take {A = X} w [] ≡ []
none_taken zero = refl
none_taken (suc w) = refl

pub resized : (w : ℕ) → take w [] ++ replicate (w - 0) None ≡ replicate {A = Option ℕ} w None
resized w = let z : w - 0 ≡ w = omega arith in (λ i. none_taken w i ++ replicate (z i) None)

pub set_long : {X : Type 0} (xs : List X) (k : ℕ) (x : X) → length (set xs k x) ≡ length xs
set_long [] zero x = refl
set_long [] (suc k) x = refl
set_long (y ∷ xs) zero x = refl
set_long (y ∷ xs) (suc k) x = ap suc (set_long xs k x)

-- an element, with itself as the value for a missing one
pub get_from : {X : Type 0} (xs : List X) (i : ℕ) (x : X) → i < length xs → x ≡ get_or xs i x → slice_get xs i ≡ Some x
get_from xs i x h e = slice_get-get_or xs i x h ∙ ap Some (sym e)

pub replicate_long : {X : Type 0} (w : ℕ) (x : X) → length (replicate w x) ≡ w
replicate_long zero x = refl
replicate_long (suc w) x = ap suc (replicate_long w x)

-- one more row
pub table_more : (now later : List Term) → IsGrown now later → (w : ℕ) (vs : List ℕ) (made : List (Solution ℕ)) (rows : List (List (Option Term))) (row : Solution ℕ) (cells : List (Option Term))
    → Each (Known now) made → map (read_by now) made ≡ table w vs rows → Known later row → read_by later row ≡ table_row w vs cells
    → Each (Known later) (made ++ row ∷ []) × (map (read_by later) (made ++ row ∷ []) ≡ table w vs (rows ++ cells ∷ []))
table_more now later g w vs made rows row cells known was here read =
    let kept = rows_kept now later g made known in (
      Each-append (Known later) made (row ∷ []) kept.0 (here, tt),
      map-append (read_by later) made (row ∷ []) ∙ (λ i. (kept.1 ∙ was) i ++ read i ∷ []) ∙ sym (map-append (table_row w vs) rows (cells ∷ [])),
    )

-- a cell of a row is a cell of the table
pub cell_of : {X : Type 0} (cells : X → List (Option Term)) (vs : List ℕ) (rows : List X) (k : ℕ) (row : X) (t : Term) → slice_get rows k ≡ Some row → Contains (take (length vs) (cells row)) (Some t) → IsCell vs (map cells rows) t
cell_of cells vs rows k row t at h = Contains-flat_map (take (length vs)) (map cells rows) k (cells row) (Some t) (slice_get-map cells rows k ∙ ap (option_map cells) at) h
