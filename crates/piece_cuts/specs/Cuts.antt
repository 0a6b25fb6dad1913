-- Places at which a document is split, each after a line feed. Which ones is a choice of this
-- project. RDF 1.1 N-Quads, [8] `EOL`, defines line feeds as ends of lines.
use Rattle.std.specs.Prelude.{◌≡◌, ◌≢◌, ℕ, ◌+◌, ◌-◌, ◌<◌, ◌≤◌, List, [], ◌∷◌, ◌++◌, length, slice_index, slice_range, ⊤}

-- a place inside the document, after a line feed
pub record IsCut (doc : List ℕ) (place : ℕ) : Type 0 where
  pub inside : (0 < place) × (place < length doc)
  pub after_line_feed : slice_index doc (place - 1) ≡ 10

-- the places increase strictly from low on, and each is a cut
abbrev pub AreCutsFrom : List ℕ → ℕ → List ℕ → Type 0
AreCutsFrom doc low [] = ⊤
AreCutsFrom doc low (p ∷ ps) = (low < p) × IsCut doc p × AreCutsFrom doc p ps

-- the places increase strictly, and each is a cut
abbrev pub AreCuts : List ℕ → List ℕ → Type 0
AreCuts doc places = AreCutsFrom doc 0 places

-- the least cut that is at least this many bytes after the start
pub record IsNextCut (doc : List ℕ) (size start place : ℕ) : Type 0 where
  pub cut : IsCut doc place
  pub far : start + size ≤ place
  pub least : (q : ℕ) → start + size ≤ q → q < place → slice_index doc (q - 1) ≢ 10

-- there is no next cut
abbrev pub HasNoNextCut : List ℕ → ℕ → ℕ → Type 0
HasNoNextCut doc size start = (q : ℕ) → start + size ≤ q → q < length doc → slice_index doc (q - 1) ≢ 10

-- from this start on, these are all the cuts, each the next one after the one before
abbrev pub AreEveryFrom : List ℕ → ℕ → ℕ → List ℕ → Type 0
AreEveryFrom doc size start [] = HasNoNextCut doc size start
AreEveryFrom doc size start (p ∷ ps) = IsNextCut doc size start p × AreEveryFrom doc size p ps

-- the bytes of piece i: from the place before it or 0, to its own place or the length of the
-- document
abbrev pub piece_at : List ℕ → List ℕ → ℕ → List ℕ
piece_at doc places i = slice_range doc (slice_index (0 ∷ places) i) (slice_index (places ++ length doc ∷ []) i)
