-- The texts of the pieces of rows, concatenated, are the texts of all rows.
use Rattle.std.proofs.Common.{◌≡◌, ℕ, zero, suc, ◌*◌, ◌<◌, ◌≤◌, ◌==◌, Bool, true, false, not, List, [], ◌∷◌, ◌++◌, Vec, Global, length, take, drop, map, flat_map, refl, sym, ap, ◌∙◌, subst, arith}
use Rattle.std.specs.Int.{div_ceil}
use Rattle.std.specs.List.{slice_index_or}
use Rattle.std.proofs.lemmas.List.{length-drop, length-map, length-take, map-append, take-append-drop}
use Rattle.std.proofs.lemmas.Bool.{ne_eqb}
use Rattle.std.proofs.lemmas.List.Concat.{flat_map-append}
use Rattle.rdf_core.specs.declared.term.Term.{Term}
use Rattle.row_pieces.specs.Pieces.{piece_of}
use Rattle.row_pieces.proofs.PieceLaws.{after-first, enough, first-piece, next-piece, no-pieces}
use Rattle.result_json.specs.Results.{joined_blocks, separated}
use Rattle.result_json.specs.Texts.{begun_column, begun_row, comma_texts, piece_text, rank_texts}
use Rattle.result_json.proofs.SeparatedLaws.{comma_texts-append}

none : {X : Type 0} (xs : List X) → length xs ≤ 0 → xs ≡ []
none [] h = refl
none (x ∷ xs) h = absurd (omega arith)

no_texts : (later : Bool) → comma_texts later [] ≡ []
no_texts true = refl
no_texts false = refl

-- a first part that is empty only if nothing follows it
in_two : (later : Bool) (xs ys : List (List ℕ)) → (length xs ≤ 0 → ys ≡ []) → comma_texts later (xs ++ ys) ≡ comma_texts later xs ++ comma_texts true ys
in_two true xs ys h = flat_map-append (λ y. 44 ∷ y) xs ys
in_two false [] ys h = ap separated (h (omega arith)) ∙ sym (ap (flat_map (λ (y : List ℕ). 44 ∷ y)) (h (omega arith)))
in_two false (x ∷ xs) ys h = comma_texts-append false (x ∷ xs) ys (omega arith)

-- whether a comma precedes the first row of a piece; `later` says it of the first piece
abbrev pub comma_at : Bool → ℕ → Bool
comma_at later zero = later
comma_at later (suc i) = true

comma_at-true : (i : ℕ) → comma_at true i ≡ true
comma_at-true zero = refl
comma_at-true (suc i) = refl

comma_at-false : (i : ℕ) → not (i == 0) ≡ comma_at false i
comma_at-false zero = refl
comma_at-false (suc i) = ap not (ne_eqb (suc i) 0 (λ e. omega (arith, e)))

module _ (terms : List Term) (columns : List (Vec ℕ Global × ℕ)) (size : ℕ) where
  abbrev pub texts : List (List ℕ) → List (List ℕ)
  texts rows = rank_texts terms columns rows

  texts-append : (xs ys : List (List ℕ)) → texts (xs ++ ys) ≡ texts xs ++ texts ys
  texts-append xs ys = map-append (begun_row terms (map begun_column columns)) xs ys

  texts-length : (xs : List (List ℕ)) → length (texts xs) ≡ length xs
  texts-length xs = length-map xs (begun_row terms (map begun_column columns))

  pieces : (later : Bool) (blocks : List (Vec ℕ Global)) (rows : List (List ℕ)) → 0 < size
      → ((i : ℕ) (d : Vec ℕ Global) → i < length blocks → (slice_index_or blocks i d).items ≡ comma_texts (comma_at later i) (texts (piece_of size i rows)))
      → length rows ≤ length blocks * size → joined_blocks blocks ≡ comma_texts later (texts rows)
  pieces later [] rows p each h =
      sym (ap (λ (rs : List (List ℕ)). comma_texts later (texts rs)) (no-pieces size rows h) ∙ no_texts later)
  pieces later (b ∷ bs) rows p each h =
      let l = length-drop size rows in
      let front = take size rows in
      let following = drop size rows in
      let first : b.items ≡ comma_texts later (texts front) = each 0 b (omega arith) ∙ ap (λ (rs : List (List ℕ)). comma_texts later (texts rs)) (first-piece size rows) in
      let rest : joined_blocks bs ≡ comma_texts true (texts following) = pieces true bs following p
      (λ i d low. each (suc i) d (omega arith) ∙ ap (λ (rs : List (List ℕ)). comma_texts true (texts rs)) (next-piece size rows i) ∙ ap (λ (b : Bool). comma_texts b (texts (piece_of size i following))) (sym (comma_at-true i)))
      (after-first size (length bs) rows h) in
      let nothing : length (texts front) ≤ 0 → texts following ≡ [] =
      λ e. ap texts (none following (omega (arith, e, texts-length front, length-take size rows, l))) in
      (λ i. first i ++ rest i) ∙ sym (in_two later (texts front) (texts following) nothing) ∙ ap (comma_texts later) (sym (texts-append front following) ∙ ap texts (take-append-drop size rows))

  -- this number of pieces holds all rows
  pub pieces-joined : (count number : ℕ) (blocks : List (Vec ℕ Global)) (rows : List (List ℕ)) → 0 < size → count ≡ length rows → number ≡ div_ceil count size → length blocks ≡ number
      → ((i : ℕ) (d : Vec ℕ Global) → i < number → (slice_index_or blocks i d).items ≡ piece_text terms columns rows size i)
      → joined_blocks blocks ≡ separated (texts rows)
  pieces-joined count number blocks rows p c n b each =
      pieces false blocks rows p (λ i d low. each i d (subst (λ (x : ℕ). i < x) b low) ∙ ap (λ (later : Bool). comma_texts later (texts (piece_of size i rows))) (comma_at-false i))
      (enough count (length rows) size number (length blocks) p c n b)
