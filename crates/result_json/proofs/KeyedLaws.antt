-- The terms of sorted pieces, concatenated, are the terms of the whole in another order.
use Rattle.std.proofs.Common.{◌≡◌, ℕ, suc, ◌*◌, ◌<◌, ◌≤◌, List, [], ◌∷◌, ◌++◌, Vec, Global, length, take, drop, IsPermutation, sym, subst, arith}
use Rattle.std.specs.Int.{div_ceil}
use Rattle.std.specs.List.{slice_index_or}
use Rattle.std.proofs.lemmas.List.{take-append-drop}
use Rattle.std.proofs.lemmas.List.Sorted.{IsPermutation-refl, IsPermutation-append}
use Rattle.row_pieces.specs.Pieces.{piece_of}
use Rattle.row_pieces.proofs.PieceLaws.{after-first, enough, first-piece, next-piece, no-pieces}
use Rattle.result_json.specs.Keyed.{Keyed, entries_of, joined_entries}
use Rattle.result_json.specs.Ranks.{Entry}

module _ (size : ℕ) where
  pieces : (sorted : List (Vec Keyed Global)) (entries : List Entry)
      → ((i : ℕ) (d : Vec Keyed Global) → i < length sorted → IsPermutation (piece_of size i entries) (entries_of (slice_index_or sorted i d).items))
      → length entries ≤ length sorted * size → IsPermutation entries (joined_entries sorted)
  pieces [] entries each h =
      subst (λ (es : List Entry). IsPermutation es []) (sym (no-pieces size entries h)) (IsPermutation-refl [])
  pieces (s ∷ ss) entries each h =
      let first : IsPermutation (take size entries) (entries_of s.items) =
      subst (λ (es : List Entry). IsPermutation es (entries_of s.items)) (first-piece size entries) (each 0 s (omega arith)) in
      let rest : IsPermutation (drop size entries) (joined_entries ss) = pieces ss (drop size entries)
      (λ i d low. subst (λ (es : List Entry). IsPermutation es (entries_of (slice_index_or ss i d).items)) (next-piece size entries i) (each (suc i) d (omega arith)))
      (after-first size (length ss) entries h) in
      subst (λ (es : List Entry). IsPermutation es (entries_of s.items ++ joined_entries ss)) (take-append-drop size entries)
      (IsPermutation-append (take size entries) (entries_of s.items) (drop size entries) (joined_entries ss) first rest)

  -- this number of pieces holds all terms
  pub pieces-permuted : (count number : ℕ) (sorted : List (Vec Keyed Global)) (entries : List Entry) → 0 < size → count ≡ length entries → number ≡ div_ceil count size → length sorted ≡ number
      → ((i : ℕ) (d : Vec Keyed Global) → i < number → IsPermutation (piece_of size i entries) (entries_of (slice_index_or sorted i d).items))
      → IsPermutation entries (joined_entries sorted)
  pieces-permuted count number sorted entries p c n b each =
      pieces sorted entries (λ i d low. each i d (subst (λ (x : ℕ). i < x) b low)) (enough count (length entries) size number (length sorted) p c n b)
