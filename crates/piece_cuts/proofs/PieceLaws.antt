-- The pieces of a document by number, concatenated, and after the first one.
use Rattle.std.proofs.Common.{◌≡◌, ℕ, zero, suc, ◌+◌, ◌-◌, ◌<◌, ◌≤◌, List, [], ◌∷◌, ◌++◌, length, get_or, take, drop, map, slice_get, Some, arith, rules, refl, ap, ◌∙◌, sym, subst, inl, inr, ◌⊎◌}
use Rattle.std.specs.List.{flat_map, slice_range}
use Rattle.std.proofs.Math.Seq.{drop-append_seam, take-append_seam}
use Rattle.std.proofs.lemmas.List.{append-nil, take_all, take_more, get_or-drop, length-drop, drop-drop}
use Rattle.std.proofs.lemmas.List.Folds.{drop_split}
use Rattle.piece_cuts.specs.Cuts.{IsCut, IsNextCut, HasNoNextCut, AreCutsFrom, AreCuts, AreEveryFrom}
use Rattle.piece_cuts.specs.Blocks.{IsFirstPiece}
use Rattle.piece_cuts.specs.Laws.{pieces_from, pieces_of, EndsWithLineFeed, ArePiecesOf}

pieces-joined : (doc : List ℕ) (start : ℕ) (places : List ℕ) → AreCutsFrom doc start places → start ≤ length doc
    → flat_map (λ (piece : List ℕ). piece) (pieces_from doc start places) ≡ drop start doc
pieces-joined doc start [] cuts inside =
    let l = length-drop start doc in
    append-nil (slice_range doc start (length doc)) ∙ take_all (length doc - start) (drop start doc) (omega arith)
pieces-joined doc start (p ∷ ps) cuts inside =
    let c = cuts.0 in
    ap (λ (r : List ℕ). slice_range doc start p ++ r) (pieces-joined doc p ps cuts.2 (omega (arith, cuts.1.inside.1)))
    ∙ sym (drop_split doc start p (omega arith))

pieces-each : (doc : List ℕ) (low : ℕ) (places : List ℕ) (i : ℕ) → i < length places + 1
    → slice_get (pieces_from doc low places) i ≡ Some (slice_range doc (get_or (low ∷ places) i 0) (get_or (places ++ length doc ∷ []) i 0))
pieces-each doc low [] zero h = refl
pieces-each doc low [] (suc i) h = absurd (omega (arith, h))
pieces-each doc low (p ∷ ps) zero h = refl
pieces-each doc low (p ∷ ps) (suc i) h = pieces-each doc p ps i (omega (arith, h))

cut-at : (doc : List ℕ) (low : ℕ) (places : List ℕ) (i : ℕ) → AreCutsFrom doc low places → i < length places
    → (get_or (low ∷ places) i 0 < get_or (places ++ length doc ∷ []) i 0) × IsCut doc (get_or (places ++ length doc ∷ []) i 0)
cut-at doc low [] i cuts h = absurd (omega (arith, h))
cut-at doc low (p ∷ ps) zero cuts h = (cuts.0, cuts.1)
cut-at doc low (p ∷ ps) (suc i) cuts h = cut-at doc p ps i cuts.2 (omega (arith, h))

ends : (doc : List ℕ) (a b : ℕ) → a < b → IsCut doc b → EndsWithLineFeed (slice_range doc a b)
ends doc a b h cut =
    let l = length-drop a doc in
    let k : b - a ≡ (b - 1 - a) + 1 = omega arith in
    let at : a + (b - 1 - a) ≡ b - 1 = omega arith in
    let last : get_or (drop a doc) (b - 1 - a) 0 ≡ 10 =
    get_or-drop a doc (b - 1 - a) 0 ∙ ap (λ i. get_or doc i 0) at ∙ cut.after_line_feed in (
      take (b - 1 - a) (drop a doc),
      ap (λ i. take i (drop a doc)) k ∙ take_more (drop a doc) (b - 1 - a) 0 (omega (arith, cut.inside.1))
          ∙ ap (λ x. take (b - 1 - a) (drop a doc) ++ x ∷ []) last,
    )

pub are-pieces : (doc places : List ℕ) → AreCuts doc places → ArePiecesOf doc places
are-pieces doc places cuts = record {
  each = λ i h. pieces-each doc 0 places i h;
  joined = pieces-joined doc 0 places cuts (omega arith);
  whole_lines = λ i h. let c = cut-at doc 0 places i cuts h in ends doc _ _ c.0 c.1;
}

-- a text without its first bytes
module _ (text : List ℕ) (p size : ℕ) (some : 1 ≤ size) where
  before : (r : ℕ) → 1 ≤ r → get_or (drop p text) (r - 1) 0 ≡ 10 → get_or text (p + r - 1) 0 ≡ 10
  before r h is =
      let e : p + (r - 1) ≡ p + r - 1 = omega arith in
      ap (λ i. get_or text i 0) (sym e) ∙ sym (get_or-drop p text (r - 1) 0) ∙ is

  none-shift : (start : ℕ) → p ≤ start → HasNoNextCut text size start → HasNoNextCut (drop p text) size (start - p)
  none-shift start h none r far below is =
      let l = length-drop p text in
      none (p + r) (omega arith) (omega arith) (before r (omega arith) is)

  next-shift : (start q : ℕ) → p ≤ start → IsNextCut text size start q → IsNextCut (drop p text) size (start - p) (q - p)
  next-shift start q h next =
      let l = length-drop p text in
      let f = next.far in
      let i = next.cut.inside in
      let e : p + (q - p - 1) ≡ q - 1 = omega arith in
      record {
        cut = record {
          inside = (omega arith, omega (arith, i.1));
          after_line_feed = get_or-drop p text (q - p - 1) 0 ∙ ap (λ k. get_or text k 0) e ∙ next.cut.after_line_feed;
        };
        far = omega arith;
        least = λ r far below is. next.least (p + r) (omega (arith, far)) (omega (arith, below)) (before r (omega (arith, far)) is);
      }

  every-shift : (start : ℕ) (ps : List ℕ) → p ≤ start → AreEveryFrom text size start ps
      → AreEveryFrom (drop p text) size (start - p) (map (λ q. q - p) ps)
  every-shift start [] h none = none-shift start h none
  every-shift start (q ∷ qs) h every =
      (next-shift start q h every.0, every-shift q qs (omega (arith, every.0.far)) every.1)

  slice-shift : (a b : ℕ) → p ≤ a → slice_range (drop p text) (a - p) (b - p) ≡ slice_range text a b
  slice-shift a b h =
      let e : b - p - (a - p) ≡ b - a = omega arith in
      let f : p + (a - p) ≡ a = omega arith in
      ap (λ k. take k (drop (a - p) (drop p text))) e ∙ ap (take (b - a)) (drop-drop (a - p) p text ∙ ap (λ k. drop k text) f)

  pieces-shift : (start : ℕ) (ps : List ℕ) → p ≤ start → AreEveryFrom text size start ps
      → pieces_from (drop p text) (start - p) (map (λ q. q - p) ps) ≡ pieces_from text start ps
  pieces-shift start [] h none =
      ap (λ (s : List ℕ). s ∷ []) (ap (slice_range (drop p text) (start - p)) (length-drop p text) ∙ slice-shift start (length text) h)
  pieces-shift start (q ∷ qs) h every =
      let f = every.0.far in
      ap (λ (s : List ℕ). s ∷ pieces_from (drop p text) (q - p) (map (λ r. r - p) qs)) (slice-shift start q h)
      ∙ ap (λ (s : List (List ℕ)). slice_range text start q ∷ s) (pieces-shift q qs (omega arith) every.1)

same-cut : (text : List ℕ) (size a b : ℕ) → IsNextCut text size 0 a → IsNextCut text size 0 b → a ≡ b
same-cut text size a b h k = by (which a b)
  where
    which : (x y : ℕ) → (x < y) ⊎ ((y < x) ⊎ (x ≡ y))
    which x y = search (rules, arith)

    by : (a < b) ⊎ ((b < a) ⊎ (a ≡ b)) → a ≡ b
    by (inl low) = absurd (k.least a h.far low h.cut.after_line_feed)
    by (inr (inl high)) = absurd (h.least b k.far high k.cut.after_line_feed)
    by (inr (inr e)) = e

abbrev pub TheRest : ℕ → List ℕ → List ℕ → List ℕ → List ℕ → Type 0
TheRest size text piece rest places =
    ((rest ≡ []) × (pieces_of text places ≡ piece ∷ []))
    ⊎ ((later : List ℕ) × (0 < length rest) × AreEveryFrom rest size 0 later × (pieces_of text places ≡ piece ∷ pieces_of rest later))

at-cut : (size : ℕ) (text piece rest : List ℕ) (q : ℕ) (qs : List ℕ) → 1 ≤ size → text ≡ piece ++ rest → q ≡ length piece
    → IsNextCut text size 0 q → AreEveryFrom text size q qs → TheRest size text piece rest (q ∷ qs)
at-cut size text piece rest q qs some joined e next every =
    let r : drop q text ≡ rest = ap (λ k. drop k text) e ∙ ap (drop (length piece)) joined ∙ drop-append_seam piece rest in
    let m : q - 0 ≡ length piece = omega arith in
    let f : take (q - 0) text ≡ piece = ap (λ k. take k text) m ∙ ap (take (length piece)) joined ∙ take-append_seam piece rest in
    let z : q - q ≡ 0 = omega arith in
    let l = length-drop q text in
    let n = ap length r in
    let later = map (λ x. x - q) qs in
    let shifted = every-shift text q size some q qs (omega arith) every in
    let same = pieces-shift text q size some q qs (omega arith) every in
    inr (
      later,
      omega (arith, next.cut.inside.1),
      subst (λ (t : List ℕ). AreEveryFrom t size 0 later) r (subst (λ k. AreEveryFrom (drop q text) size k later) z shifted),
      ap (λ (s : List ℕ). s ∷ pieces_from text q qs) f
          ∙ ap (λ (s : List (List ℕ)). piece ∷ s) (sym same ∙ ap (λ k. pieces_from (drop q text) k later) z ∙ ap (λ (t : List ℕ). pieces_from t 0 later) r),
    )

pub first-then : (size : ℕ) (text piece rest places : List ℕ) → 1 ≤ size → 0 < length text → IsFirstPiece size text piece rest
    → AreEveryFrom text size 0 places → TheRest size text piece rest places
first-then size text piece rest [] some full first every = by first.cut
  where
    by : IsNextCut text size 0 (length piece) ⊎ (HasNoNextCut text size 0 × (rest ≡ [])) → TheRest size text piece rest []
    by (inl next) = absurd (every (length piece) next.far next.cut.inside.1 next.cut.after_line_feed)
    by (inr (none, e)) =
        inl (e, ap (λ (s : List ℕ). s ∷ []) (take_all (length text - 0) text (omega arith) ∙ first.joined ∙ ap (λ (s : List ℕ). piece ++ s) e ∙ append-nil piece))
first-then size text piece rest (q ∷ qs) some full first every = by first.cut
  where
    by : IsNextCut text size 0 (length piece) ⊎ (HasNoNextCut text size 0 × (rest ≡ [])) → TheRest size text piece rest (q ∷ qs)
    by (inl next) = at-cut size text piece rest q qs some first.joined (same-cut text size q (length piece) every.0 next) every.0 every.1
    by (inr (none, e)) = absurd (none q every.0.far every.0.cut.inside.1 every.0.cut.after_line_feed)
