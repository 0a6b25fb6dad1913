-- Texts that follow each other in one list of bytes (a choice of this project).
use Rattle.std.specs.Prelude.{◌≡◌, ℕ, ◌≤◌, List, [], ◌∷◌, slice_range}

-- the texts from `start` on: each ends at one of the ends, and the next one begins there
abbrev pub texts_after : List ℕ → ℕ → List ℕ → List (List ℕ)
texts_after bytes start [] = []
texts_after bytes start (end ∷ ends) = slice_range bytes start end ∷ texts_after bytes end ends

-- the ends do not fall, and the last one is `last`
abbrev pub AreEnds : ℕ → List ℕ → ℕ → Type 0
AreEnds start [] last = start ≡ last
AreEnds start (end ∷ ends) last = (start ≤ end) × AreEnds end ends last
