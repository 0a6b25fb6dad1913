-- Terms that are read in parts.
use Rattle.std.proofs.Common.{◌≡◌, ℕ, suc, ◌+◌, ◌-◌, ◌*◌, ◌/◌, ◌<◌, ◌≤◌, ◌⊎◌, inl, inr, min, List, [], ◌∷◌, ◌++◌, length, take, drop, Result, Ok, Err, refl, sym, ap, ◌∙◌, subst, arith, take-add}
use Rattle.std.specs.List.{slice_index_or, slice_range}
use Rattle.std.proofs.lemmas.Bool.{cases_lt}
use Rattle.std.proofs.lemmas.List.{drop_all, length-drop, take_all, take_min}
use Rattle.rdf_core.specs.declared.term.Term.{Term}
use Rattle.dict_core.specs.Appearances.{first_appearances}
use Rattle.dict_core.proofs.AppearanceLaws.{appearances_again}
use Rattle.std.specs.Result.{IfOk}
use Rattle.std.specs.declared.alloc.AllocError.{AllocError}
use Rattle.text_pieces.specs.Forms.{AreFormsOf}
use Rattle.text_pieces.proofs.FormLaws.{length_forms}
use Rattle.dataset_load.specs.Terms.{AreJoined, AreTermParts, IsTermPart, terms_of_a_part}

-- the terms with these numbers are a part
pub part_between : (terms : List Term) (len i from to : ℕ) → len ≡ length terms → from ≡ min (i * terms_of_a_part) len → to ≡ min (from + terms_of_a_part) len
    → slice_range terms from to ≡ take terms_of_a_part (drop (i * terms_of_a_part) terms)
part_between terms len i from to len_is from_is to_is = by (cases_lt (i * terms_of_a_part) len)
  where
    start : ℕ
    start = i * terms_of_a_part

    by : (start < len) ⊎ (len ≤ start) → slice_range terms from to ≡ take terms_of_a_part (drop start terms)
    by (inl low) =
        let rest = drop start terms in
        let at : from ≡ start = omega (arith, from_is, low) in
        let count : to - from ≡ min terms_of_a_part (length rest) = omega (arith, to_is, at, low, len_is, length-drop start terms) in
        (λ k. take (count k) (drop (at k) terms)) ∙ take_min terms_of_a_part rest
    by (inr high) =
        let at : to - from ≡ 0 = omega (arith, from_is, to_is, high) in
        let none : drop start terms ≡ [] = drop_all start terms (omega (arith, high, len_is)) in
        ap (λ n. take n (drop from terms)) at ∙ sym (ap (take terms_of_a_part) none ∙ take_all terms_of_a_part [] (omega arith))

pub part_read : (texts : List (List ℕ)) (i from to len : ℕ) (r : Result (List Term) AllocError) → len ≡ length texts → from ≡ min (i * terms_of_a_part) len
    → to ≡ min (from + terms_of_a_part) len
    → IfOk r (λ dict. (terms : List Term) → AreFormsOf terms texts → dict ≡ first_appearances (slice_range terms from to)) → IfOk r (IsTermPart texts i)
part_read texts i from to len (Ok dict) len_is from_is to_is h =
    λ terms forms. h terms forms ∙ ap first_appearances (part_between terms len i from to (len_is ∙ length_forms terms texts forms) from_is to_is)
part_read texts i from to len (Err e) len_is from_is to_is h = tt

-- these parts
pub parts_of : (dicts : List (List Term)) (terms : List Term) (first : ℕ)
    → ((i : ℕ) (d : List Term) → i < length dicts → slice_index_or dicts i d ≡ first_appearances (take terms_of_a_part (drop ((first + i) * terms_of_a_part) terms)))
    → AreTermParts terms first dicts
parts_of [] terms first h = tt
parts_of (dict ∷ dicts) terms first h =
    let here : first + 0 ≡ first = omega arith in (
      h 0 dict (omega arith) ∙ ap (λ n. first_appearances (take terms_of_a_part (drop (n * terms_of_a_part) terms))) here,
      parts_of dicts terms (suc first) (λ i d low.
          let next : first + suc i ≡ suc first + i = omega arith in
          h (suc i) d (omega (arith, low)) ∙ ap (λ n. first_appearances (take terms_of_a_part (drop (n * terms_of_a_part) terms))) next),
    )

pub joined_none : (terms dict : List Term) (left : List (List Term)) (at : ℕ) → dict ≡ first_appearances (take (at * terms_of_a_part) terms) → AreTermParts terms at left
    → AreJoined terms dict left (at + length left)
joined_none terms dict left at first parts = record { at = at; first = first; later = parts; ends = refl }

pub joined_more : (terms dict more part : List Term) (left rest : List (List Term)) (end : ℕ) → AreJoined terms dict left end → left ≡ part ∷ rest
    → more ≡ first_appearances (dict ++ part) → AreJoined terms more rest end
joined_more terms dict more part left rest end was left_is more_is =
    let from = was.at * terms_of_a_part in
    let h = subst (AreTermParts terms was.at) left_is was.later in
    let next : from + terms_of_a_part ≡ suc was.at * terms_of_a_part = omega arith in record {
      at = suc was.at;
      first = more_is ∙ (λ k. first_appearances (was.first k ++ h.0 k)) ∙ appearances_again (take from terms) (take terms_of_a_part (drop from terms))
          ∙ ap first_appearances (sym (take-add from terms_of_a_part terms)) ∙ ap (λ n. first_appearances (take n terms)) next;
      later = h.1;
      ends = omega (arith, was.ends, ap length left_is);
    }

pub joined_all : (terms dict : List Term) (left : List (List Term)) (end : ℕ) → AreJoined terms dict left end → length left ≡ 0
    → dict ≡ first_appearances (take (end * terms_of_a_part) terms)
joined_all terms dict left end was none =
    let last : was.at ≡ end = omega (arith, was.ends, none) in
    was.first ∙ ap (λ n. first_appearances (take (n * terms_of_a_part) terms)) last

-- all terms
pub all_joined : (texts : List (List ℕ)) (terms dict : List Term) (len from : ℕ) → AreFormsOf terms texts → len ≡ length texts → len / terms_of_a_part + 1 ≤ from
    → dict ≡ first_appearances (take (from * terms_of_a_part) terms) → dict ≡ first_appearances terms
all_joined texts terms dict len from forms len_is high h =
    let same = length_forms terms texts forms in
    h ∙ ap first_appearances (take_all (from * terms_of_a_part) terms (omega (arith, same, len_is, high)))
