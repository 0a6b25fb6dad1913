-- Cells and their codes, one by one.
use Rattle.std.proofs.Common.{◌≡◌, ℕ, zero, suc, ◌+◌, ◌<◌, ◌≤◌, ◌∙◌, Bool, true, false, ◌&&◌, List, [], ◌∷◌, ◌++◌, length, get_or, take, drop, set, map, Option, None, refl, sym, ap, arith, append_assoc}
use Rattle.std.specs.List.{list_all}
use Rattle.std.proofs.lemmas.List.{drop_more, drop_all, drop-map, take-map, take_more, map-append, map-set}
use Rattle.row_core.specs.Cells.{cell_of, has_code}

pub have_codes-drop : (cells : List (Option ℕ)) (i : ℕ) → i < length cells
    → list_all has_code (drop i cells) ≡ (has_code (get_or cells i None) && list_all has_code (drop (i + 1) cells))
have_codes-drop cells i h = ap (list_all has_code) (drop_more cells i None h)

pub have_codes-end : (cells : List (Option ℕ)) (i : ℕ) → length cells ≤ i → list_all has_code (drop i cells) ≡ true
have_codes-end cells i h = ap (list_all has_code) (drop_all i cells h)

first_true : (a b : Bool) → (a && b) ≡ true → a ≡ true
first_true true b e = refl
first_true false b e = e

rest_true : (a b : Bool) → (a && b) ≡ true → b ≡ true
rest_true true b e = e
rest_true false b e = cc

-- each of them has a code
pub coded-at : (cells : List (Option ℕ)) (i : ℕ) → list_all has_code cells ≡ true → i < length cells → has_code (get_or cells i None) ≡ true
coded-at [] i e h = absurd (omega arith)
coded-at (x ∷ cells) zero e h = first_true (has_code x) (list_all has_code cells) e
coded-at (x ∷ cells) (suc i) e h = coded-at cells i (rest_true (has_code x) (list_all has_code cells) e) (omega arith)

-- one more code
pub coded-more : (cells : List (Option ℕ)) (i : ℕ) (was old new : List ℕ) (code : ℕ) → i < length cells
    → map cell_of old ≡ map cell_of was ++ take i cells → cell_of code ≡ get_or cells i None → new ≡ old ++ code ∷ []
    → map cell_of new ≡ map cell_of was ++ take (i + 1) cells
coded-more cells i was old new code low held is pushed =
    ap (map cell_of) pushed
    ∙ map-append cell_of old (code ∷ [])
    ∙ (λ j. held j ++ is j ∷ [])
    ∙ append_assoc (map cell_of was) (take i cells) (get_or cells i None ∷ [])
    ∙ ap (λ (r : List (Option ℕ)). map cell_of was ++ r) (sym (take_more cells i None low))

-- the cells of a part of the codes
cells-read : (codes : List ℕ) (a k w : ℕ) → k ≡ w → map cell_of (take k (drop a codes)) ≡ take w (drop a (map cell_of codes))
cells-read codes a k w e =
    sym (take-map cell_of k (drop a codes))
    ∙ ap (take k) (sym (drop-map cell_of a codes))
    ∙ ap (λ (n : ℕ). take n (drop a (map cell_of codes))) e

-- the cells of a part of codes that are held
pub part-read : (codes part : List ℕ) (cells : List (Option ℕ)) (a k w : ℕ) → cells ≡ map cell_of codes → k ≡ w → part ≡ codes
    → map cell_of (take k (drop a part)) ≡ take w (drop a cells)
part-read codes part cells a k w is e same =
    ap (λ (r : List ℕ). map cell_of (take k (drop a r))) same
    ∙ cells-read codes a k w e
    ∙ ap (λ (r : List (Option ℕ)). take w (drop a r)) (sym is)

-- the largest code is that of an unbound cell
pub code-unbound : (codes : List ℕ) (at : ℕ) → map cell_of (set codes at 4294967295) ≡ set (map cell_of codes) at None
code-unbound codes at = map-set cell_of codes at 4294967295
