-- A dictionary of terms as texts: the N-Quads forms of distinct terms, each numbered by its place from 0 (a choice of
-- this project). Such a form identifies its term (nquads_core, the law `forms_identify_terms`).
use Rattle.std.specs.Prelude.{◌≡◌, ◌⊎◌, ℕ, ◌<◌, List, [], ◌∷◌, ◌++◌, length, slice_get, Some}
use Rattle.keyed_hash.specs.declared.HashState.{HashState}
use Rattle.text_dict.specs.Forms.{AreForms}
use Rattle.text_dict.specs.Slots.{AreReached, most_numbers}

-- the texts by number, and the state of the hash function
pub record TextDictView : Type 0 where
  pub texts : List (List ℕ)
  pub state : HashState

-- the text has a number
abbrev pub Has : List (List ℕ) → List ℕ → Type 0
Has texts text = (n : ℕ) × (slice_get texts n ≡ Some text)

-- the later list has the text too: the earlier list, if it has the text, and otherwise the text after it
abbrev pub IsAdded : List (List ℕ) → List ℕ → List (List ℕ) → Type 0
IsAdded earlier text later =
    (Has earlier text × (later ≡ earlier)) ⊎ ((Has earlier text → ⊥) × (later ≡ earlier ++ text ∷ []))

-- Only private clauses use this definition: each text is the N-Quads form of a term, and the table finds each.
pub record IsTable (hash : List ℕ → ℕ) (texts : List (List ℕ)) (slots : List ℕ) : Type 0 where
  pub few : length texts < most_numbers
  pub forms : AreForms texts
  pub reached : AreReached hash texts slots
