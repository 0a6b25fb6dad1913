-- Texts that are looked up ahead: one more row, and one more column.
use Rattle.std.proofs.Common.{◌≡◌, ℕ, Bor, Vec, Global, ◌+◌, ◌<◌, List, [], ◌∷◌, ◌++◌, length, get_or, inl, refl, sym, ap, ◌∙◌, subst, arith, below_more}
use Rattle.std.proofs.lemmas.List.{get_or-map, get_or_append_left, get_or_push, length-map}
use Rattle.rdf_core.specs.declared.term.Term.{Term}
use Rattle.result_json.specs.declared.ranked_row.RankedRow.{RankedRow}
use Rattle.result_json.specs.RankedRows.{ranks_of}
use Rattle.result_json.specs.Texts.{all_texts, AreAhead, IsAhead, IsColumnAhead, IsRowAhead}

-- what is true of each of the first elements is true of one more
pub first_more : {X : Type 0} (P : ℕ → X → Type 0) (d : X) (made made' : List X) (x : X) (i : ℕ) → length made ≡ i → made' ≡ made ++ x ∷ [] → P i x
    → ((k : ℕ) → k < i → P k (get_or made k d)) → (k : ℕ) → k < i + 1 → P k (get_or made' k d)
first_more P d made made' x i n e here h =
    let last : x ≡ get_or made' i d = sym (get_or_push made x d i n) ∙ ap (λ ms. get_or ms i d) (sym e) in
    below_more _ i
    (λ k l. let same : get_or made k d ≡ get_or made' k d = sym (get_or_append_left made (x ∷ []) d k (omega (arith, n))) ∙ ap (λ ms. get_or ms k d) (sym e) in subst (P k) same (h k l))
    (subst (P i) last here)

-- the empty list of texts
pub none_ahead : (terms : List Term) (place : ℕ) (rows : List (List ℕ)) → IsColumnAhead terms place rows []
none_ahead terms place rows i l = inl refl

-- the texts of a row, from those of the rows
pub row_ahead : (terms : List Term) (places : List ℕ) (rows : List RankedRow) (i : ℕ) (row : RankedRow) (texts shown : List (Vec (Bor (List ℕ)) Global)) → i < length rows
    → row ≡ get_or rows i row → shown ≡ texts
    → AreAhead terms places (ranks_of rows) (all_texts texts)
    → IsRowAhead terms places row.ranks.now i (all_texts shown)
row_ahead terms places rows i row texts shown lt is same h k l =
    subst (λ ts. IsAhead terms (get_or row.ranks.now (get_or places k 0) 0) (get_or (get_or (all_texts ts) k []) i [])) (sym same)
    (subst (λ (rs : List ℕ). IsAhead terms (get_or rs (get_or places k 0) 0) (get_or (get_or (all_texts texts) k []) i []))
    (get_or-map (λ (r : RankedRow). r.ranks.now) rows i row [] lt ∙ ap (λ (r : RankedRow). r.ranks.now) (sym is))
    (h k l i (subst (λ n. i < n) (sym (length-map rows (λ (r : RankedRow). r.ranks.now))) lt)))
