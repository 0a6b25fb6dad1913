-- The rows of all pieces, concatenated, are the rows of the whole.
use Rattle.std.proofs.Common.{ℕ, suc, ◌*◌, ◌<◌, ◌≤◌, ◌≡◌, List, [], ◌∷◌, ◌++◌, length, take, drop, sym, ap, ◌∙◌, subst, arith}
use Rattle.std.specs.List.{flat_map, slice_index_or}
use Rattle.std.proofs.lemmas.List.{take-append-drop}
use Rattle.std.proofs.lemmas.List.Sorted.{IsPermutation-refl, IsPermutation-append}
use Rattle.std.proofs.lemmas.Grind.{flat_map-append}
use Rattle.algebra_model.specs.Bag.{IsSameBag}
use Rattle.algebra_model.specs.Pieces.{joined}
use Rattle.algebra_model.specs.Solution.{Solution}
use Rattle.row_core.specs.declared.rows.Rows.{Rows}
use Rattle.row_pieces.specs.Pieces.{AreRowsOf, piece_of}
use Rattle.row_pieces.proofs.PieceLaws.{after-first, first-piece, next-piece, no-pieces}

module _ (w size : ℕ) where
  pub pieces-joined : (outs : List Rows) (parts : List (List (Solution ℕ)))
      → ((i : ℕ) (d : Rows) → i < length outs → AreRowsOf w (piece_of size i parts) (slice_index_or outs i d))
      → length parts ≤ length outs * size → IsSameBag (flat_map (λ out. out.rows) outs) (joined parts)
  pieces-joined [] parts each h =
      subst (λ (ps : List (List (Solution ℕ))). IsSameBag [] (joined ps)) (sym (no-pieces size parts h)) (IsPermutation-refl [])
  pieces-joined (o ∷ os) parts each h =
      let first : IsSameBag o.rows (joined (take size parts)) =
      subst (λ (ps : List (List (Solution ℕ))). IsSameBag o.rows (joined ps)) (first-piece size parts) (each 0 o (omega arith)).1 in
      let rest = pieces-joined os (drop size parts)
      (λ i d low. subst (λ (ps : List (List (Solution ℕ))). AreRowsOf w ps (slice_index_or os i d)) (next-piece size parts i) (each (suc i) d (omega arith)))
      (after-first size (length os) parts h) in
      let whole : joined (take size parts) ++ joined (drop size parts) ≡ joined parts =
      sym (flat_map-append (λ part. part) (take size parts) (drop size parts)) ∙ ap joined (take-append-drop size parts) in
      subst (λ (b : List (Solution ℕ)). IsSameBag (o.rows ++ flat_map (λ (out : Rows). out.rows) os) b) whole
      (IsPermutation-append o.rows (joined (take size parts)) _ _ first rest)
