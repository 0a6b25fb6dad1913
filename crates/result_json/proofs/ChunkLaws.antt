-- Consecutive rows in one list.
use Rattle.std.proofs.Common.{◌≡◌, ℕ, zero, suc, ◌<◌, List, [], ◌∷◌, ◌++◌, length, get_or, take, drop, map, flat_map, slice_get, Option, None, Some, option_map, refl, sym, ap, ◌∙◌, arith}
use Rattle.std.proofs.lemmas.List.{map-append, take-map, take_at, drop_at, length-map}
use Rattle.std.proofs.lemmas.Option.{slice_get-get_or, slice_get_past}
use Rattle.rdf_core.specs.declared.term.Term.{Term}
use Rattle.rdf_core.specs.declared.term.Term.TheVariants.{Blank}
use Rattle.algebra_model.specs.Renaming.{Each, EachBound, read_row}
use Rattle.algebra_model.specs.RowOrder.{cells}
use Rattle.algebra_model.specs.Solution.{Solution}
use Rattle.algebra_model.proofs.ReadingLaws.{bound_at}
use Rattle.dict_core.specs.Dict.{term_at}
use Rattle.row_core.specs.RowList.{rows_in}
use Rattle.result_json.specs.Ranks.{code_of, codes_of, ranked_cell, ranked_row}
use Rattle.result_json.proofs.SliceLaws.{drop-map}

pub Each-take : {X : Type 0} (P : X → Type 0) (n : ℕ) (xs : List X) → Each P xs → Each P (take n xs)
Each-take P zero xs h = tt
Each-take P (suc n) [] h = tt
Each-take P (suc n) (x ∷ xs) h = (h.0, Each-take P n xs h.1)

pub Each-drop : {X : Type 0} (P : X → Type 0) (n : ℕ) (xs : List X) → Each P xs → Each P (drop n xs)
Each-drop P zero xs h = h
Each-drop P (suc n) [] h = tt
Each-drop P (suc n) (x ∷ xs) h = Each-drop P n xs h.1

pub Each-rows_in : {X : Type 0} (P : X → Type 0) (k n : ℕ) (xs : List X) → Each P xs → Each (Each P) (rows_in k k n xs)
Each-rows_in P k zero xs h = tt
Each-rows_in P k (suc n) xs h = (Each-take P k xs h, Each-rows_in P k n (drop k xs) (Each-drop P k xs h))

-- mapping the cells of consecutive rows maps each row
pub map-rows_in : {A B X : Type 0} (g : A → B) (k : ℕ) (f : X → List B) → ((x : X) → length (f x) ≡ k) → (xs : List X) (flat : List A) → map g flat ≡ flat_map f xs → map (map g) (rows_in k k (length xs) flat) ≡ map f xs
map-rows_in g k f wide [] flat e = refl
map-rows_in g k f wide (x ∷ xs) flat e =
    let first : map g (take k flat) ≡ f x = sym (take-map g k flat) ∙ ap (take k) e ∙ take_at (f x) (flat_map f xs) k (wide x) in
    let rest : map g (drop k flat) ≡ flat_map f xs = sym (drop-map g k flat) ∙ ap (drop k) e ∙ drop_at (f x) (flat_map f xs) k (wide x) in
    λ i. first i ∷ map-rows_in g k f wide xs (drop k flat) rest i

-- ---- the cells of codes

read_get : {A B : Type 0} (f : A → B) (μ : Solution A) (v : ℕ) → get_or (read_row f μ) v None ≡ option_map f (get_or μ v None)
read_get f [] v = refl
read_get f (x ∷ μ) zero = refl
read_get f (x ∷ μ) (suc v) = read_get f μ v

module _ (dict : List Term) where
  code_cell : (μ : Solution ℕ) → EachBound (λ n. n < length dict) μ → (v : ℕ) → slice_get dict (code_of (length dict) (get_or μ v None)) ≡ get_or (read_row (term_at dict) μ) v None
  code_cell μ h v = by (get_or μ v None) refl ∙ sym (read_get (term_at dict) μ v)
    where
      by : (o : Option ℕ) → get_or μ v None ≡ o → slice_get dict (code_of (length dict) o) ≡ option_map (term_at dict) o
      by None e = slice_get_past dict (length dict) (omega arith)
      by (Some n) e = slice_get-get_or dict n (Blank []) (bound_at (λ (k : ℕ). k < length dict) μ v n h e)

  codes_cells : (vs : List ℕ) (μ : Solution ℕ) → EachBound (λ n. n < length dict) μ → map (slice_get dict) (codes_of (length dict) vs μ) ≡ cells vs (read_row (term_at dict) μ)
  codes_cells [] μ h = refl
  codes_cells (v ∷ vs) μ h = λ i. code_cell μ h v i ∷ codes_cells vs μ h i

  abbrev pub read_cells : List ℕ → Solution ℕ → List (Option Term)
  read_cells vs μ = cells vs (read_row (term_at dict) μ)

  all_codes_cells : (vs : List ℕ) (rows : List (Solution ℕ)) → Each (EachBound (λ n. n < length dict)) rows → map (slice_get dict) (flat_map (codes_of (length dict) vs) rows) ≡ flat_map (read_cells vs) rows
  all_codes_cells vs [] h = refl
  all_codes_cells vs (μ ∷ rows) h =
      map-append (slice_get dict) (codes_of (length dict) vs μ) (flat_map (codes_of (length dict) vs) rows) ∙ (λ i. codes_cells vs μ h.0 i ++ all_codes_cells vs rows h.1 i)

  map-read : (vs : List ℕ) (rows : List (Solution ℕ)) → map (read_cells vs) rows ≡ map (cells vs) (map (read_row (term_at dict)) rows)
  map-read vs [] = refl
  map-read vs (μ ∷ rows) = ap (λ r. read_cells vs μ ∷ r) (map-read vs rows)

  -- the rows of ranks are the rows of terms
  pub rows_of_ranks : (vs : List ℕ) (rows : List (Solution ℕ)) → Each (EachBound (λ n. n < length dict)) rows → (terms : List Term) (codes ranks : List ℕ) → codes ≡ flat_map (codes_of (length dict) vs) rows → map (ranked_cell terms) ranks ≡ map (slice_get dict) codes
      → map (ranked_row terms) (rows_in (length vs) (length vs) (length rows) ranks) ≡ map (cells vs) (map (read_row (term_at dict)) rows)
  rows_of_ranks vs rows h terms codes ranks c e =
      map-rows_in (ranked_cell terms) (length vs) (read_cells vs) (λ μ. length-map vs (λ v. get_or (read_row (term_at dict) μ) v None)) rows ranks (e ∙ ap (map (slice_get dict)) c ∙ all_codes_cells vs rows h) ∙ map-read vs rows
