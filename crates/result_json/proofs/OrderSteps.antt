-- Whether terms are in order, from pairs of neighbours.
use Rattle.std.proofs.Common.{◌≡◌, ℕ, zero, suc, ◌+◌, ◌*◌, ◌<◌, ◌≤◌, false, List, Bool, true, length, get_or, All, IsSorted, is_lt, refl, sym, ap, ◌∙◌, subst, arith, ⊎_elim}
use Rattle.std.specs.Int.{div_ceil}
use Rattle.std.proofs.Math.Nat.{suc-mul, zero-mul}
use Rattle.std.proofs.lemmas.Bool.{cases_lt}
use Rattle.std.proofs.lemmas.List.{get_or-map}
use Rattle.rdf_core.specs.declared.term.Term.{Term}
use Rattle.rdf_core.specs.Order.{term_cmp}
use Rattle.row_pieces.proofs.PieceLaws.{enough}
use Rattle.result_json.specs.Ranks.{Entry, terms_of, IsPieceInOrder, IsRisingPart}

-- one more pair is in order
pub rising_more : (entries : List Entry) (from k : ℕ) (x y : Entry) → k + 1 < length entries → is_lt (term_cmp (get_or entries (k + 1) y).0.now (get_or entries k x).0.now) ≡ false
    → IsRisingPart (terms_of entries) from k → IsRisingPart (terms_of entries) from (k + 1)
rising_more entries from k x y l up before j d a b = ⊎_elim earlier last (cases_lt j k)
  where
    earlier : j < k → is_lt (term_cmp (get_or (terms_of entries) (j + 1) d) (get_or (terms_of entries) j d)) ≡ false
    earlier c = before j d a c

    last : k ≤ j → is_lt (term_cmp (get_or (terms_of entries) (j + 1) d) (get_or (terms_of entries) j d)) ≡ false
    last c =
        let e : j ≡ k = omega arith in
        let term : get_or (terms_of entries) k d ≡ (get_or entries k x).0.now = get_or-map (λ (t : Entry). t.0.now) entries k x d (omega arith) in
        let next : get_or (terms_of entries) (k + 1) d ≡ (get_or entries (k + 1) y).0.now = get_or-map (λ (t : Entry). t.0.now) entries (k + 1) y d l in
        ap (λ (n : ℕ). is_lt (term_cmp (get_or (terms_of entries) (n + 1) d) (get_or (terms_of entries) n d))) e ∙ (λ i. is_lt (term_cmp (next i) (term i))) ∙ up

-- the piece of a place
abbrev Piece : ℕ → ℕ → ℕ → Type 0
Piece size k n = (i : ℕ) × (i < n) × (i * size ≤ k) × (k < i * size + size)

piece_at : (size k n : ℕ) → k < n * size → Piece size k n
piece_at size k zero l = absurd (let z = zero-mul size in omega arith)
piece_at size k (suc n) l =
    let m = suc-mul n size in
    let last : n * size ≤ k → Piece size k (suc n) = λ b. (n, omega arith, b, omega arith) in
    ⊎_elim (λ (b : k < n * size). let p = piece_at size k n b in (p.0, omega (arith, p.1), p.2, p.3)) last (cases_lt k (n * size))

-- the terms are in order if all pieces are
pub pieces-rise : (terms : List Term) (size count number : ℕ) (found : List Bool) → 0 < size → length terms ≤ count + 1 → number ≡ div_ceil count size → length found ≡ number
    → ((i : ℕ) (d : Bool) → i < number → get_or found i d ≡ true → IsPieceInOrder size i terms) → All (λ value. value ≡ true) found → IsSorted term_cmp terms
pieces-rise terms size count number found p c n b each all k d low high =
    let all_in : count ≤ number * size = enough count count size number number p refl n refl in
    let at = piece_at size k number (omega arith) in
    each at.0 true at.1 (all at.0 true (subst (λ (x : ℕ). at.0 < x) (sym b) at.1)) k d at.2 at.3 high
