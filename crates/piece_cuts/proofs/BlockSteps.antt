-- What one more read changes in the buffered bytes, and their first piece.
use Rattle.std.proofs.Common.{◌≡◌, ◌≢◌, ℕ, ◌+◌, ◌-◌, ◌<◌, ◌≤◌, List, [], ◌∷◌, ◌++◌, length, get_or, take, drop, Option, Some, None, rules, max, arith, refl, ap, ◌∙◌, sym, subst, append_assoc, length-append, inl, inr, ◌⊎◌, Vec, Global}
use Rattle.std.proofs.lemmas.List.{append-nil, take-append-drop, get_or_append_left, length-take, take_more}
use Rattle.nquads_core.specs.Transfer.{ReadsMore}
use Rattle.nquads_core.proofs.TransferSteps.{Consumes-more, Consumes-start}
use Rattle.piece_cuts.specs.Cuts.{IsNextCut, HasNoNextCut}
use Rattle.piece_cuts.specs.Blocks.{IsFirstPiece, BothKnown, GivesBlock, Grows, HasNoCutUpTo}

pub Grows-start : (a : Option (List ℕ)) (xs : List ℕ) → Grows a a xs xs
Grows-start a xs = record { added = []; appended = sym (append-nil xs); consumed = Consumes-start a }

pub Grows-more : (a b c : Option (List ℕ)) (xs ys zs : List ℕ) (n : ℕ) → Grows a b xs ys → ReadsMore b c ys zs n → Grows a c xs zs
Grows-more a b c xs ys zs n h k = record {
  added = h.added ++ k.added;
  appended = k.appended ∙ ap (λ us. us ++ k.added) h.appended ∙ append_assoc xs h.added k.added;
  consumed = Consumes-more a b c h.added k.added h.consumed k.consumed;
}

nil_from_length : (xs : List ℕ) → length xs ≡ 0 → xs ≡ []
nil_from_length [] h = refl
nil_from_length (x ∷ xs) h = absurd (omega (arith, h))

-- a read of no bytes leaves the bytes unchanged
pub same_from_none : (a b : Option (List ℕ)) (xs ys : List ℕ) (n : ℕ) → n ≡ 0 → ReadsMore a b xs ys n → ys ≡ xs
same_from_none a b xs ys n e h = h.appended ∙ ap (λ us. xs ++ us) (nil_from_length h.added (h.count ∙ e)) ∙ append-nil xs

-- a cut of the front is a cut of the whole
pub IsNextCut-append : (xs ys : List ℕ) (size place : ℕ) → 1 ≤ size → IsNextCut xs size 0 place → IsNextCut (xs ++ ys) size 0 place
IsNextCut-append xs ys size place some h = record {
  cut = record { inside = (h.cut.inside.0, omega (arith, h.cut.inside.1, length-append xs ys)); after_line_feed = get_or_append_left xs ys 0 (place - 1) (omega (arith, h.cut.inside.0, h.cut.inside.1)) ∙ h.cut.after_line_feed };
  far = h.far;
  least = λ q far below is. h.least q far below (sym (get_or_append_left xs ys 0 (q - 1) (omega (arith, far, some, below, h.cut.inside.1))) ∙ is);
}

-- the first piece, if a cut is among the buffered bytes
pub IsFirstPiece-cut : (xs ys : List ℕ) (size place : ℕ) → 1 ≤ size → IsNextCut xs size 0 place → IsFirstPiece size (xs ++ ys) (take place xs) (drop place xs ++ ys)
IsFirstPiece-cut xs ys size place some h = record {
  joined = sym (sym (append_assoc (take place xs) (drop place xs) ys) ∙ ap (λ us. us ++ ys) (take-append-drop place xs));
  cut = inl (subst (IsNextCut (xs ++ ys) size 0) (sym (length-take-below xs place (omega (arith, h.cut.inside.1)))) (IsNextCut-append xs ys size place some h));
}
  where
    length-take-below : (us : List ℕ) (n : ℕ) → n ≤ length us → length (take n us) ≡ n
    length-take-below us n le = simp length-take (omega arith)

-- the first piece, if there is no cut and the reader is at its end
pub IsFirstPiece-last : (xs : List ℕ) (size : ℕ) → HasNoNextCut xs size 0 → IsFirstPiece size (xs ++ []) xs []
IsFirstPiece-last xs size h = record { joined = refl; cut = inr (rw append-nil h, refl) }

-- the text, from what is buffered after some reads
text-is : (kept mid added xs ys : List ℕ) → mid ≡ kept ++ added → xs ≡ added ++ ys → kept ++ xs ≡ mid ++ ys
text-is kept mid added xs ys m c = ap (λ us. kept ++ us) c ∙ sym (append_assoc kept added ys) ∙ ap (λ us. us ++ ys) (sym m)

pub BothKnown-cut : (left left' : Option (List ℕ)) (kept mid : List ℕ) (size place : ℕ) → 1 ≤ size → Grows left left' kept mid → IsNextCut mid size 0 place → BothKnown left left' (λ xs ys. (0 < length (kept ++ xs)) × IsFirstPiece size (kept ++ xs) (take place mid) (drop place mid ++ ys))
BothKnown-cut None left' kept mid size place some grows h = tt
BothKnown-cut (Some xs) None kept mid size place some grows h = absurd grows.consumed
BothKnown-cut (Some xs) (Some ys) kept mid size place some grows h =
    let text = text-is kept mid grows.added xs ys grows.appended grows.consumed in
    (rw text (omega (arith, length-append mid ys, h.cut.inside.1)), rw text (IsFirstPiece-cut mid ys size place some h))

-- the same, from equal sizes and bytes
pub BothKnown-block : (left left' : Option (List ℕ)) (size size' : ℕ) (kept kept' front tail tail' : List ℕ) (b : Vec ℕ Global) → size ≡ size' → kept ≡ kept' → b.items ≡ front → tail' ≡ tail → BothKnown left left' (λ xs ys. (0 < length (kept ++ xs)) × IsFirstPiece size (kept ++ xs) front (tail ++ ys)) → BothKnown left left' (λ xs ys. GivesBlock size' (kept' ++ xs) (tail' ++ ys) (Some b))
BothKnown-block None left' size size' kept kept' front tail tail' b s k f t h = tt
BothKnown-block (Some xs) None size size' kept kept' front tail tail' b s k f t h = absurd h
BothKnown-block (Some xs) (Some ys) size size' kept kept' front tail tail' b s k f t h = rw (← s, ← k, f, t) h

-- nothing is searched before the size
pub HasNoCutUpTo-start : (bytes : List ℕ) (size : ℕ) → HasNoCutUpTo bytes size size
HasNoCutUpTo-start bytes size q from below = absurd (omega arith)

-- if there is no cut after this place, all bytes are clear, and they stay clear if bytes are
-- appended
pub HasNoCutUpTo-more : (bytes more all : List ℕ) (size searched : ℕ) → 1 ≤ size → HasNoCutUpTo bytes size searched
    → HasNoNextCut bytes searched 0 → all ≡ bytes ++ more → HasNoCutUpTo all size (max searched (length bytes))
HasNoCutUpTo-more bytes more all size searched some clear none e q from below =
    let old = by (which q searched) in
    let l = length-append bytes more in
    let la = ap length e in
    (omega (arith, old.0), λ is. old.1 (sym (get_or_append_left bytes more 0 (q - 1) (omega (arith, old.0))) ∙ ap (λ xs. get_or xs (q - 1) 0) (sym e) ∙ is))
  where
    which : (a b : ℕ) → (a < b) ⊎ (b ≤ a)
    which a b = search (rules, arith)

    by : (q < searched) ⊎ (searched ≤ q) → (q ≤ length bytes) × (get_or bytes (q - 1) 0 ≢ 10)
    by (inl low) = clear q from low
    by (inr high) = (omega arith, none q (omega arith) (omega arith))

-- a cut found after this place is the first one
pub IsNextCut-clear : (bytes : List ℕ) (size searched place : ℕ) → size ≤ searched → HasNoCutUpTo bytes size searched
    → IsNextCut bytes searched 0 place → IsNextCut bytes size 0 place
IsNextCut-clear bytes size searched place l clear h = record {
  cut = h.cut;
  far = omega (arith, h.far, l);
  least = λ q far below. by q far below (which q searched);
}
  where
    which : (a b : ℕ) → (a < b) ⊎ (b ≤ a)
    which a b = search (rules, arith)

    by : (q : ℕ) → 0 + size ≤ q → q < place → (q < searched) ⊎ (searched ≤ q) → get_or bytes (q - 1) 0 ≢ 10
    by q far below (inl low) = (clear q (omega (arith, far)) low).1
    by q far below (inr high) = h.least q (omega (arith, high)) below

-- and if there is none, there is none at all
pub HasNoNextCut-clear : (bytes : List ℕ) (size searched : ℕ) → HasNoCutUpTo bytes size searched
    → HasNoNextCut bytes searched 0 → HasNoNextCut bytes size 0
HasNoNextCut-clear bytes size searched clear none q far below = by (which q searched)
  where
    which : (a b : ℕ) → (a < b) ⊎ (b ≤ a)
    which a b = search (rules, arith)

    by : (q < searched) ⊎ (searched ≤ q) → get_or bytes (q - 1) 0 ≢ 10
    by (inl low) = (clear q (omega (arith, far)) low).1
    by (inr high) = none q (omega (arith, high)) below

-- a text that ends at a cut ends with a line feed
pub ends_whole : (all block : List ℕ) (size place : ℕ) → IsNextCut all size 0 place → block ≡ take place all → (front : List ℕ) × (block ≡ front ++ 10 ∷ [])
ends_whole all block size place h is =
    let k : place ≡ (place - 1) + 1 = omega (arith, h.cut.inside.0) in (
      take (place - 1) all,
      is ∙ ap (λ n. take n all) k ∙ take_more all (place - 1) 0 (omega (arith, h.cut.inside.0, h.cut.inside.1)) ∙ ap (λ x. take (place - 1) all ++ x ∷ []) h.cut.after_line_feed,
    )
