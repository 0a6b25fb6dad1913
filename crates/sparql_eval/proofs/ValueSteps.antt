-- The values of an expression, with one more row and one more piece, and their numbers.
use Rattle.std.proofs.Common.{◌≡◌, ℕ, zero, suc, ◌+◌, ◌-◌, ◌*◌, ◌<◌, ◌≤◌, List, [], ◌∷◌, ◌++◌, length, take, drop, map, get_or, slice_get, Option, None, Some, option_map, Contains, ⊎_elim, refl, sym, ap, ◌∙◌, subst, arith}
use Rattle.std.specs.List.{slice_index_or}
use Rattle.std.proofs.lemmas.List.{map-append, take-append-drop}
use Rattle.std.proofs.lemmas.List.Elements.{Contains-append_left, Contains-append_right, Contains-append_cases, Contains-push}
use Rattle.std.specs.List.{flat_map}
use Rattle.rdf_core.specs.declared.term.Term.{Term}
use Rattle.algebra_model.specs.Expression.{Expression, val}
use Rattle.algebra_model.specs.Renaming.{Each}
use Rattle.algebra_model.specs.Solution.{Solution}
use Rattle.algebra_model.proofs.RangeLaws.{Each-append}
use Rattle.dict_core.specs.Dict.{AreNumbersOf, IsGrown, AreDistinct, term_at}
use Rattle.dict_core.specs.Appearances.{first_appearances}
use Rattle.dict_core.proofs.AppearanceLaws.{absorbed_terms}
use Rattle.dict_core.proofs.InsertLaws.{grown}
use Rattle.row_core.proofs.TurnLaws.{take_more_get}
use Rattle.row_pieces.specs.Pieces.{piece_of}
use Rattle.row_pieces.proofs.PieceLaws.{after-first, first-piece, next-piece, no-pieces}
use Rattle.sparql_eval.specs.declared.piece_values.PieceValue.{PieceValue}
use Rattle.sparql_eval.specs.declared.piece_values.PieceValue.TheVariants.{Error, Known as Number, Own}
use Rattle.sparql_eval.specs.declared.piece_values.PieceValues.{PieceValues}
use Rattle.sparql_eval.specs.Computed.{TakesOnly}
use Rattle.sparql_eval.specs.Values.{AreValues, AreAllValues, ArePieceValues, IsOwnBelow, IsPieceIn, IsValueIn, IsValueOf, own_terms, piece_terms, value_number, value_term, values_over}
use Rattle.sparql_eval.proofs.FilterSteps.{get_drop}
use Rattle.sparql_eval.proofs.ReadingLaws.{Known, read_by, grown_itself, number_kept, number_known, number_read, row_kept}
use Rattle.sparql_eval.proofs.TakingLaws.{Contains-none}

-- ---- dictionaries that grow

module _ (terms terms' own own' : List Term) (g : IsGrown terms terms') (h : IsGrown own own') where
  pub value_kept : (x : PieceValue) → IsValueIn terms own x → IsValueIn terms' own' x × (value_term terms' own' x ≡ value_term terms own x)
  value_kept Error k = (tt, refl)
  value_kept (Number n) k = let r = number_kept terms terms' g n k in (r.0, ap Some r.1)
  value_kept (Own n) k = let r = number_kept own own' h n k in (r.0, ap Some r.1)

  pub values_kept : (xs : List PieceValue) → Each (IsValueIn terms own) xs → Each (IsValueIn terms' own') xs × (map (value_term terms' own') xs ≡ map (value_term terms own) xs)
  values_kept [] k = (tt, refl)
  values_kept (x ∷ xs) k =
      let r = value_kept x k.0 in
      let rs = values_kept xs k.1 in
      ((r.0, rs.0), λ i. r.1 i ∷ rs.1 i)

-- ---- one more row, and all pieces

module _ (terms : List Term) (e : Expression) where
  pub values_more : (own own' : List Term) → IsGrown own own' → IsGrown terms terms → (A : List (Solution ℕ)) (from i : ℕ) (μ : Solution ℕ) (found : List PieceValue) (x : PieceValue) → from ≤ i → slice_get A i ≡ Some μ
      → AreValues terms own e (take (i - from) (drop from A)) found → IsValueOf terms own' (val e (read_by terms μ)) x → TakesOnly (λ t. val e (read_by terms μ) ≡ Some t) own own'
      → AreValues terms own' e (take (i + 1 - from) (drop from A)) (found ++ x ∷ [])
  values_more own own' h g A from i μ found x low at was here taken =
      let part = take (i - from) (drop from A) in
      let s : i + 1 - from ≡ (i - from) + 1 = omega arith in
      let more = ap (λ m. take m (drop from A)) s ∙ take_more_get (drop from A) (i - from) μ (get_drop A from (i - from) i (omega arith) ∙ at) in
      let value = val e (read_by terms μ) in
      let longer : values_over terms e part ++ value ∷ [] ≡ values_over terms e (take (i + 1 - from) (drop from A)) =
      sym (map-append (λ ρ. val e (read_by terms ρ)) part (μ ∷ [])) ∙ ap (values_over terms e) (sym more) in
      let kept = values_kept terms terms own own' g h found was.0 in (
        Each-append (IsValueIn terms own') found (x ∷ []) kept.0 (here.0, tt),
        map-append (value_term terms own') found (x ∷ []) ∙ (λ k. (kept.1 ∙ was.1) k ++ here.1 k ∷ []) ∙ longer,
        λ t k. subst (λ l. Contains l (Some t)) longer (⊎_elim
            (λ old. Contains-append_left (values_over terms e part) (value ∷ []) (Some t) (was.2 t old))
            (λ is. subst (Contains (values_over terms e part ++ value ∷ [])) is (Contains-push (values_over terms e part) value))
            (taken t k)),
      )

  -- all pieces, concatenated
  pub values_joined : (size : ℕ) (outs : List PieceValues) (A : List (Solution ℕ))
      → ((i : ℕ) (d : PieceValues) → i < length outs → ArePieceValues terms e (piece_of size i A) (slice_index_or outs i d))
      → length A ≤ length outs * size → AreAllValues terms e A outs
  values_joined size [] A each h = (tt, ap (values_over terms e) (sym (no-pieces size A h)), λ t k. absurd (Contains-none t k))
  values_joined size (o ∷ os) A each h =
      let first : ArePieceValues terms e (take size A) o =
      subst (λ (ps : List (Solution ℕ)). ArePieceValues terms e ps o) (first-piece size A) (each 0 o (omega arith)) in
      let rest = values_joined size os (drop size A)
      (λ i d low. subst (λ (ps : List (Solution ℕ)). ArePieceValues terms e ps (slice_index_or os i d)) (next-piece size A i) (each (suc i) d (omega arith)))
      (after-first size (length os) A h) in
      let front = values_over terms e (take size A) in
      let back = values_over terms e (drop size A) in
      let parts : front ++ back ≡ values_over terms e A =
      sym (map-append (λ ρ. val e (read_by terms ρ)) (take size A) (drop size A)) ∙ ap (values_over terms e) (take-append-drop size A) in (
        (first.0, rest.0),
        (λ k. first.1 k ++ rest.1 k) ∙ parts,
        λ t k. subst (λ l. Contains l (Some t)) parts (⊎_elim
            (λ here. Contains-append_left front back (Some t) (first.2 t here))
            (λ there. Contains-append_right front back (Some t) (rest.2 t there))
            (Contains-append_cases o.own (flat_map own_terms os) t k)),
      )

-- ---- the numbers of values

-- a dictionary that merged another
pub absorbed_grown : (old own new : List Term) → AreDistinct old → new ≡ first_appearances (old ++ own) → IsGrown old new
absorbed_grown old own new apart e = subst (IsGrown old) (absorbed_terms old own apart ∙ sym e) (grown old own)

pub own_known : (new own : List Term) (numbers : List ℕ) → AreNumbersOf new own numbers → (k : ℕ) → k < length own → (k < length numbers) × (slice_get new (get_or numbers k 0) ≡ Some (term_at own k))
own_known new [] numbers h k low = absurd (omega arith)
own_known new (t ∷ own) [] h k low = absurd h
own_known new (t ∷ own) (n ∷ numbers) h zero low = (omega arith, h.0)
own_known new (t ∷ own) (n ∷ numbers) h (suc k) low = let r = own_known new own numbers h.1 k (omega arith) in (omega (arith, r.0), r.1)

module _ (terms new own : List Term) (numbers : List ℕ) (g : IsGrown terms new) (h : AreNumbersOf new own numbers) where
  pub own_below : (xs : List PieceValue) → Each (IsValueIn terms own) xs → Each (IsOwnBelow (length numbers)) xs
  own_below [] k = tt
  own_below (Error ∷ xs) k = (tt, own_below xs k.1)
  own_below (Number n ∷ xs) k = (tt, own_below xs k.1)
  own_below (Own n ∷ xs) k = ((own_known new own numbers h n k.0).0, own_below xs k.1)

  -- the numbers, read through the dictionary that merged the terms, are the values
  pub values_numbered : (xs : List PieceValue) → Each (IsValueIn terms own) xs
      → Known new (map (value_number numbers) xs) × (read_by new (map (value_number numbers) xs) ≡ map (value_term terms own) xs)
  values_numbered [] k = (tt, refl)
  values_numbered (Error ∷ xs) k =
      let rs = values_numbered xs k.1 in
      (rs.0, ap (λ l. value_term terms own Error ∷ l) rs.1)
  values_numbered (Number n ∷ xs) k =
      let r = number_kept terms new g n k.0 in
      let rs = values_numbered xs k.1 in
      ((r.0, rs.0), λ i. Some (r.1 i) ∷ rs.1 i)
  values_numbered (Own n ∷ xs) k =
      let at = (own_known new own numbers h n k.0).1 in
      let m = get_or numbers n 0 in
      let rs = values_numbered xs k.1 in
      ((number_known new m (term_at own n) at, rs.0), λ i. Some (number_read new m (term_at own n) at i) ∷ rs.1 i)

-- a piece that was computed with an earlier dictionary
pub piece_kept : (terms terms' : List Term) → IsGrown terms terms' → (piece : PieceValues) → IsPieceIn terms piece → IsPieceIn terms' piece × (piece_terms terms' piece ≡ piece_terms terms piece)
piece_kept terms terms' g piece k = values_kept terms terms' piece.own piece.own g (grown_itself piece.own) piece.values.items k

pub known-append : (terms : List Term) (xs ys : List (Option ℕ)) → Known terms xs → Known terms ys → Known terms (xs ++ ys)
known-append terms [] ys h k = k
known-append terms (None ∷ xs) ys h k = known-append terms xs ys h k
known-append terms (Some x ∷ xs) ys h k = (h.0, known-append terms xs ys h.1 k)

-- one more piece
pub numbers_more : (old new own : List Term) (numbers : List ℕ) (g : IsGrown old new) (h : AreNumbersOf new own numbers) (was now : List (Option ℕ)) (xs : List PieceValue)
    → Known old was → Each (IsValueIn old own) xs → now ≡ was ++ map (value_number numbers) xs
    → Known new now × (read_by new now ≡ read_by old was ++ map (value_term old own) xs)
numbers_more old new own numbers g h was now xs known in_piece e =
    let k = row_kept old new g was known in
    let m = values_numbered old new own numbers g h xs in_piece in (
      subst (Known new) (sym e) (known-append new was (map (value_number numbers) xs) k.0 m.0),
      ap (read_by new) e ∙ map-append (option_map (term_at new)) was (map (value_number numbers) xs) ∙ (λ i. k.1 i ++ m.1 i),
    )
