-- The next cut from a start, and the two ends of a piece.
use Rattle.std.proofs.Common.{◌≡◌, ℕ, zero, suc, ◌+◌, ◌-◌, ◌<◌, ◌≤◌, List, [], ◌∷◌, ◌++◌, length, get_or, take, drop, arith, ap, ◌∙◌, sym, length-drop, eq-eqb}
use Rattle.std.proofs.lemmas.List.{get_or-drop, take_all}
use Rattle.std.proofs.lemmas.Bool.{eqb-true}
use Rattle.memchr.specs.Find.{Nowhere, NoneBefore, Passes, is_byte}
use Rattle.piece_cuts.specs.Cuts.{IsNextCut, HasNoNextCut, AreCutsFrom, AreEveryFrom}

module _ (doc : List ℕ) (from start size : ℕ) (starts : from + 1 ≡ start + size) (inside : from ≤ length doc) where
  abbrev hay : List ℕ
  hay = take (length doc - from) (drop from doc)

  hay_is : hay ≡ drop from doc
  hay_is = take_all (length doc - from) (drop from doc) (omega (arith, length-drop from doc))

  hay-at : (k : ℕ) → get_or hay k 0 ≡ get_or doc (from + k) 0
  hay-at k = rw hay_is (get_or-drop from doc k 0)

  hay-length : length hay ≡ length doc - from
  hay-length = rw hay_is (length-drop from doc)

  -- a line feed at the byte before q is found
  Passes-before : (q : ℕ) → start + size ≤ q → get_or doc (q - 1) 0 ≡ 10 → Passes (is_byte 10) hay (q - 1 - from)
  Passes-before q far is =
      let there : from + (q - 1 - from) ≡ q - 1 = omega arith in
      eq-eqb _ _ (hay-at (q - 1 - from) ∙ ap (λ k. get_or doc k 0) there ∙ is)

  pub HasNoNextCut-from_none : Nowhere (Passes (is_byte 10) hay) 0 (length hay) → HasNoNextCut doc size start
  HasNoNextCut-from_none none q far below is = none (q - 1 - from) (omega arith) (omega (arith, hay-length)) (Passes-before q far is)

  pub HasNoNextCut-from_last : (k : ℕ) → NoneBefore (Passes (is_byte 10) hay) 0 (length hay) k → length doc ≤ from + k + 1 → HasNoNextCut doc size start
  HasNoNextCut-from_last k first last q far below is = first.before (q - 1 - from) (omega arith) (omega arith) (Passes-before q far is)

  pub IsNextCut-from_first : (k : ℕ) → NoneBefore (Passes (is_byte 10) hay) 0 (length hay) k → Passes (is_byte 10) hay k → from + k + 1 < length doc → IsNextCut doc size start (from + k + 1)
  IsNextCut-from_first k first here below = record {
    cut = record { inside = (omega arith, below); after_line_feed = (let e : from + k + 1 - 1 ≡ from + k = omega arith in ap (λ i. get_or doc i 0) e ∙ sym (hay-at k) ∙ eqb-true _ _ here) };
    far = omega arith;
    least = λ q far before is. first.before (q - 1 - from) (omega arith) (omega arith) (Passes-before q far is);
  }

-- every next cut from a start on is a cut, and the cuts increase
pub AreCuts-every : (doc : List ℕ) (size start : ℕ) (places : List ℕ) → 1 ≤ size → AreEveryFrom doc size start places → AreCutsFrom doc start places
AreCuts-every doc size start [] some every = tt
AreCuts-every doc size start (p ∷ ps) some every = (omega (arith, some, every.0.far), every.0.cut, AreCuts-every doc size p ps some every.1)

-- the ends of a piece are in order and inside the document
pub ends-in_order : (doc : List ℕ) (low : ℕ) (places : List ℕ) (i : ℕ) → AreCutsFrom doc low places → low ≤ length doc → i < length places + 1 → get_or (low ∷ places) i 0 ≤ get_or (places ++ length doc ∷ []) i 0
ends-in_order doc low [] zero cuts inside lt = inside
ends-in_order doc low [] (suc i) cuts inside lt = absurd (omega (arith, lt))
ends-in_order doc low (p ∷ ps) zero cuts inside lt = omega (arith, cuts.0)
ends-in_order doc low (p ∷ ps) (suc i) cuts inside lt = ends-in_order doc p ps i cuts.2 (omega (arith, cuts.1.inside.1)) (omega (arith, lt))

pub ends-inside : (doc : List ℕ) (low : ℕ) (places : List ℕ) (i : ℕ) → AreCutsFrom doc low places → i < length places + 1 → get_or (places ++ length doc ∷ []) i 0 ≤ length doc
ends-inside doc low [] zero cuts lt = omega arith
ends-inside doc low [] (suc i) cuts lt = absurd (omega (arith, lt))
ends-inside doc low (p ∷ ps) zero cuts lt = omega (arith, cuts.1.inside.1)
ends-inside doc low (p ∷ ps) (suc i) cuts lt = ends-inside doc p ps i cuts.2 (omega (arith, lt))
