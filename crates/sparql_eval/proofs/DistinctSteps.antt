-- Distinct, with one more row.
use Rattle.std.proofs.Common.{◌≡◌, ℕ, ◌+◌, Bool, true, false, cond, not, ◌||◌, List, [], ◌∷◌, ◌++◌, filter, map, nat_eq, Decides, refl, sym, ap, ◌∙◌, append-nil, if◌then◌else◌, subst, length, ◌<◌, take, slice_get, Some}
use Rattle.std.specs.Cmp.{both_ways}
use Rattle.std.specs.List.{list_any}
use Rattle.std.proofs.lemmas.Bool.Decides.{Decides-eqb}
use Rattle.std.proofs.lemmas.List.Elements.{filter-append}
use Rattle.algebra_model.specs.Bag.{without_repeats}
use Rattle.algebra_model.specs.Operators.{distinct}
use Rattle.algebra_model.specs.Solution.{Solution, same_solution}
use Rattle.algebra_model.proofs.BgpLaws.{solution_decides}
use Rattle.algebra_model.proofs.RepeatLaws.{any-map, any-without_repeats_is}
use Rattle.std.proofs.lemmas.List.{map-append}
use Rattle.rdf_core.specs.declared.term.Term.{Term}
use Rattle.rdf_core.proofs.TermLaws.{term_eq}
use Rattle.algebra_model.specs.Renaming.{Each}
use Rattle.algebra_model.proofs.OperatorReadingLaws.{distinct-read}
use Rattle.algebra_model.proofs.RangeLaws.{Each-without_repeats}
use Rattle.dict_core.specs.Dict.{AreDistinct, term_at}
use Rattle.row_core.specs.RowList.{RowList}
use Rattle.row_core.proofs.TurnLaws.{take_more_get}
use Rattle.sparql_eval.specs.Evaluated.{AreKnown, IsEvaluated}
use Rattle.sparql_eval.proofs.ReadingLaws.{Known, read_by, equal_by_number, evaluated}

module _ {X : Type 0} (same : X → X → Bool) (decides : (x y : X) → Decides (same x y) (x ≡ y)) where
  symmetric : (x y : X) → same y x ≡ same x y
  symmetric x y = both_ways (same y x) (same x y) (λ e. (decides x y).1 (sym ((decides y x).0 e))) (λ e. (decides y x).1 (sym ((decides x y).0 e)))

  pub without_repeats-push : (xs : List X) (x : X) → without_repeats same (xs ++ x ∷ []) ≡ (if list_any (same x) xs then without_repeats same xs else without_repeats same xs ++ x ∷ [])
  without_repeats-push [] x = refl
  without_repeats-push (y ∷ xs) x =
      ap (λ r. y ∷ filter (λ z. not (same y z)) r) (without_repeats-push xs x) ∙ by (same x y) (list_any (same x) xs) (symmetric x y)
    where
      by : (a b : Bool) → same y x ≡ a → y ∷ filter (λ z. not (same y z)) (if b then without_repeats same xs else without_repeats same xs ++ x ∷ []) ≡ (if a || b then y ∷ filter (λ z. not (same y z)) (without_repeats same xs) else y ∷ filter (λ z. not (same y z)) (without_repeats same xs) ++ x ∷ [])
      by true true e = refl
      by false true e = refl
      by true false e =
          ap (λ r. y ∷ r) (filter-append (λ z. not (same y z)) (without_repeats same xs) (x ∷ []) ∙ ap (λ b. filter (λ z. not (same y z)) (without_repeats same xs) ++ cond (not b) (x ∷ []) []) e ∙ append-nil (filter (λ z. not (same y z)) (without_repeats same xs)))
      by false false e =
          ap (λ r. y ∷ r) (filter-append (λ z. not (same y z)) (without_repeats same xs) (x ∷ []) ∙ ap (λ b. filter (λ z. not (same y z)) (without_repeats same xs) ++ cond (not b) (x ∷ []) []) e)

number_decides : (μ ν : Solution ℕ) → Decides (same_solution nat_eq μ ν) (μ ≡ ν)
number_decides = solution_decides nat_eq Decides-eqb

-- a row was seen exactly if it is among the keys
seen_before : {K : Type 0} (now : K → Solution ℕ) (keys : List K) (made A : List (Solution ℕ)) (x : Solution ℕ) → map now keys ≡ made → made ≡ distinct nat_eq A → list_any (λ k. same_solution nat_eq x (now k)) keys ≡ list_any (same_solution nat_eq x) A
seen_before now keys made A x e h =
    sym (any-map (same_solution nat_eq x) now keys) ∙ ap (list_any (same_solution nat_eq x)) (e ∙ h) ∙ any-without_repeats_is (same_solution nat_eq) number_decides x A

pub distinct-take : {K : Type 0} (now : K → Solution ℕ) (keys : List K) (made R : List (Solution ℕ)) (i : ℕ) (x : Solution ℕ) → map now keys ≡ made → made ≡ distinct nat_eq (take i R) → slice_get R i ≡ Some x
    → distinct nat_eq (take (i + 1) R) ≡ (if list_any (λ k. same_solution nat_eq x (now k)) keys then made else made ++ x ∷ [])
distinct-take now keys made R i x e h at =
    ap (distinct nat_eq) (take_more_get R i x at) ∙ without_repeats-push (same_solution nat_eq) number_decides (take i R) x
    ∙ (λ j. if sym (seen_before now keys made (take i R) x e h) j then sym h j else sym h j ++ x ∷ [])

-- one iteration: the row is added exactly if it is new
pub distinct_turn : {K : Type 0} (now : K → Solution ℕ) (keys keys' : List K) (k : K) (made made' R : List (Solution ℕ)) (i : ℕ) (b : Bool) → map now keys ≡ made → made ≡ distinct nat_eq (take i R) → slice_get R i ≡ Some (now k)
    → b ≡ not (list_any (λ k'. same_solution nat_eq (now k) (now k')) keys)
    → keys' ≡ (if list_any (λ k'. same_solution nat_eq (now k) (now k')) keys then keys else keys ++ k ∷ [])
    → made' ≡ (if b then made ++ now k ∷ [] else made)
    → (made' ≡ distinct nat_eq (take (i + 1) R)) × (map now keys' ≡ made')
distinct_turn {K} now keys keys' k made made' R i b e h at new grown put =
    by (list_any (λ k'. same_solution nat_eq (now k) (now k')) keys) new grown (distinct-take now keys made R i (now k) e h at)
  where
    by : (s : Bool) → b ≡ not s → keys' ≡ (if s then keys else keys ++ k ∷ []) → distinct nat_eq (take (i + 1) R) ≡ (if s then made else made ++ now k ∷ [])
        → (made' ≡ distinct nat_eq (take (i + 1) R)) × (map now keys' ≡ made')
    by true n g d =
        let p : made' ≡ made = put ∙ ap (λ c. cond c (made ++ now k ∷ []) made) n in
        (p ∙ sym d, ap (map now) g ∙ e ∙ sym p)
    by false n g d =
        let p : made' ≡ made ++ now k ∷ [] = put ∙ ap (λ c. cond c (made ++ now k ∷ []) made) n in
        (p ∙ sym d, ap (map now) g ∙ map-append now keys (k ∷ []) ∙ ap (λ l. l ++ now k ∷ []) e ∙ sym p)

pub chosen : {X : Type 0} (x y : X) (b : Bool) → b ≡ true → x ≡ cond b x y
chosen x y b e = ap (λ c. cond c x y) (sym e)

pub other : {X : Type 0} (x y : X) (b : Bool) → b ≡ false → y ≡ cond b x y
other x y b e = ap (λ c. cond c x y) (sym e)

pub distinct_evaluated : (terms : List Term) → AreDistinct terms → (rows made : RowList) → AreKnown terms rows → made.width ≡ rows.width → made.rows ≡ distinct nat_eq rows.rows → IsEvaluated terms rows.width (distinct term_eq (map (read_by terms) rows.rows)) made terms
distinct_evaluated terms once rows made known wide e =
    evaluated terms rows.width (distinct term_eq (map (read_by terms) rows.rows)) made wide
    (subst (Each (Known terms)) (sym e) (Each-without_repeats (Known terms) (same_solution nat_eq) rows.rows known))
    (ap (map (read_by terms)) e ∙ sym (distinct-read nat_eq term_eq (λ n. n < length terms) (term_at terms) (equal_by_number terms once) rows.rows known))
