-- The merge of two rows, with one more code, and its cells after those of other rows.
use Rattle.std.proofs.Common.{◌≡◌, ℕ, zero, suc, ◌+◌, ◌*◌, ◌<◌, ◌≤◌, List, [], ◌∷◌, ◌++◌, length, get_or, take, drop, map, Option, None, refl, sym, ap, ◌∙◌, arith, add-one, append_assoc}
use Rattle.std.proofs.Math.Nat.{suc-mul}
use Rattle.std.proofs.lemmas.List.{take_all, map-append, length-append, length-map, get_or-map}
use Rattle.algebra_model.specs.Solution.{Solution, bound_or, merge}
use Rattle.row_core.specs.Cells.{cell_of}
use Rattle.row_core.specs.RowList.{RowList, rows_in, stride, padded}
use Rattle.row_core.proofs.RestrictSteps.{length-part}
use Rattle.row_core.proofs.RowSteps.{length-padded, rows-pushed, width-shown}
use Rattle.row_core.proofs.TurnLaws.{merge-take}

-- one more code
pub merged-more : (a b : List ℕ) (i : ℕ) (was old new : List ℕ) (code : ℕ) → i < length a → length a ≡ length b
    → map cell_of old ≡ map cell_of was ++ merge (take i (map cell_of a)) (take i (map cell_of b))
    → cell_of code ≡ bound_or (cell_of (get_or a i 0)) (cell_of (get_or b i 0)) → new ≡ old ++ code ∷ []
    → map cell_of new ≡ map cell_of was ++ merge (take (i + 1) (map cell_of a)) (take (i + 1) (map cell_of b))
merged-more a b i was old new code low same held is pushed =
    let left = map cell_of a in
    let right = map cell_of b in
    let k : i < length b = omega arith in
    let la = length-map a cell_of in
    let lb = length-map b cell_of in
    let one : cell_of code ≡ bound_or (get_or left i None) (get_or right i None) =
    is ∙ (λ j. bound_or (sym (get_or-map cell_of a i 0 None low) j) (sym (get_or-map cell_of b i 0 None k) j)) in
    ap (map cell_of) pushed
    ∙ map-append cell_of old (code ∷ [])
    ∙ (λ j. held j ++ one j ∷ [])
    ∙ append_assoc (map cell_of was) (merge (take i left) (take i right)) (bound_or (get_or left i None) (get_or right i None) ∷ [])
    ∙ ap (λ (r : Solution ℕ). map cell_of was ++ r) (sym (merge-take left right i (omega arith) (omega arith)))

pub merged-all : (a b : List ℕ) (i : ℕ) → length a ≤ i → length a ≡ length b
    → merge (take i (map cell_of a)) (take i (map cell_of b)) ≡ merge (map cell_of a) (map cell_of b)
merged-all a b i h e =
    let la = length-map a cell_of in
    let lb = length-map b cell_of in
    let k : length (map cell_of a) ≤ i = omega arith in
    let m : length (map cell_of b) ≤ i = omega arith in
    λ j. merge (take_all i (map cell_of a) k j) (take_all i (map cell_of b) m j)

pub length-merge : (w : ℕ) (μ ν : Solution ℕ) → length μ ≡ w → length ν ≡ w → length (merge μ ν) ≡ w
length-merge w [] ν a b = b
length-merge w (x ∷ μ) [] a b = a
length-merge zero (x ∷ μ) (y ∷ ν) a b = absurd (omega arith)
length-merge (suc w) (x ∷ μ) (y ∷ ν) a b = let e = length-merge w μ ν (omega arith) (omega arith) in omega arith

-- a row with variables takes no cell more
pub padded-same : (row : Solution ℕ) → 0 < length row → padded row ≡ row
padded-same [] h = absurd (omega arith)
padded-same (x ∷ row) h = refl

-- the cells of one row more
pub length-pushed : (w n : ℕ) (cells all row : List (Option ℕ)) → length row ≡ w → length cells ≡ n * stride w
    → all ≡ cells ++ padded row → length all ≡ (n + 1) * stride w
length-pushed w n cells all row wide long added =
    let e = ap length added ∙ length-append cells (padded row) in
    let p = length-padded w row wide in
    let m = ap (λ k. k * stride w) (add-one n) ∙ suc-mul n (stride w) in
    omega arith

pub length-merged : (w a b : ℕ) (left right : List (Option ℕ)) → a + w ≤ length left → b + w ≤ length right
    → length (merge (take w (drop a left)) (take w (drop b right))) ≡ w
length-merged w a b left right h k =
    length-merge w (take w (drop a left)) (take w (drop b right)) (length-part a w left h) (length-part b w right k)

-- appending the merge of two rows
pub rows-merged : (w n : ℕ) (cells all left right : List (Option ℕ)) (v : RowList)
    → record { width = w; rows = rows_in w (stride w) n cells } ≡ v
    → (a b : ℕ) (μ ν : Solution ℕ) → a + w ≤ length left → b + w ≤ length right
    → μ ≡ take w (drop a left) → ν ≡ take w (drop b right) → length cells ≡ n * stride w
    → all ≡ cells ++ padded (merge (take w (drop a left)) (take w (drop b right)))
    → rows_in w (stride w) (n + 1) all ≡ v.rows ++ merge μ ν ∷ []
rows-merged w n cells all left right v is a b μ ν h k first second long added =
    rows-pushed w n cells v is (merge (take w (drop a left)) (take w (drop b right))) all
    (length-merged w a b left right h k ∙ width-shown w n cells v is) long added
    ∙ (λ j. v.rows ++ merge (sym first j) (sym second j) ∷ [])
