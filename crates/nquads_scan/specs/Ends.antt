-- Where the slice of a term ends in a text of bytes, so that its last terminal does not go on. Only private clauses
-- use these definitions; what is promised is in Splitting of nquads_core.
use Rattle.std.specs.Prelude.{◌≡◌, ℕ, ◌-◌, ◌≤◌, ◌<◌, ◌⊎◌, Bool, false, true, not, ◌&&◌, ◌||◌, ◌==◌, nat_le, List, [], ◌∷◌, ◌++◌, length, drop, get_or}
use Rattle.std.specs.Char.{is_ascii_alphanumeric}
use Rattle.std.specs.List.{list_all}
use Rattle.std.specs.Str.{IsUtf8}
use Rattle.rdf_core.specs.Characters.{begins}

-- LF or CR
abbrev pub is_line_end : ℕ → Bool
is_line_end b = b == 10 || b == 13

-- no byte is LF or CR
abbrev pub HasNoEnd : List ℕ → Type 0
HasNoEnd bytes = list_all (λ b. not (is_line_end b)) bytes ≡ true

-- no byte from one place up to another is LF or CR
pub record HasNoEndIn (bytes : List ℕ) (from to : ℕ) : Type 0 where
  pub each : (k : ℕ) → from ≤ k → k < to → is_line_end (get_or bytes k 0) ≡ false

-- a byte at which a search stops: one of two, LF or CR
abbrev pub is_sought : ℕ → ℕ → ℕ → Bool
is_sought a b c = (c == a || c == b) || is_line_end c

-- a search for these two stops at no byte from one place up to another
pub record IsPassed (a b : ℕ) (bytes : List ℕ) (from to : ℕ) : Type 0 where
  pub each : (k : ℕ) → from ≤ k → k < to → is_sought a b (get_or bytes k 0) ≡ false

-- a byte that a label or the dots after it may have; each byte of a character above 127 is taken for one
abbrev pub is_label_byte : ℕ → Bool
is_label_byte b = nat_le 128 b || is_ascii_alphanumeric b || b == 95 || b == 58 || b == 45 || b == 46

-- a byte that a language tag may have; each byte of a character above 127 is taken for one
abbrev pub is_tag_byte : ℕ → Bool
is_tag_byte b = nat_le 128 b || is_ascii_alphanumeric b || b == 45

-- no label goes on in this text: it has dots, and then its end or a byte that no label has
abbrev pub ends_label : List ℕ → Bool
ends_label [] = true
ends_label (b ∷ bytes) = (b == 46 && ends_label bytes) || not (is_label_byte b)

-- no language tag goes on in this text
abbrev pub ends_tag : List ℕ → Bool
ends_tag [] = true
ends_tag (b ∷ bytes) = not (is_tag_byte b)

-- a byte that closes an IRI or a string: > or a quote
abbrev pub is_close : ℕ → Bool
is_close b = b == 62 || b == 34

-- a place of the text from this one on
abbrev pub IsPlaceAfter : List ℕ → ℕ → ℕ → Type 0
IsPlaceAfter bytes from at = (from ≤ at) × (at ≤ length bytes)

-- the byte before this place closes an IRI or a string
pub record IsClosedAt (bytes : List ℕ) (end : ℕ) : Type 0 where
  pub some : 0 < end
  pub within : end ≤ length bytes
  pub closed : is_close (get_or bytes (end - 1) 0) ≡ true

-- The slice before this place is a blank node label that does not go on after it, or a literal whose tag does not.
pub record IsRunTo (first : ℕ) (ends : List ℕ → Bool) (bytes : List ℕ) (end : ℕ) : Type 0 where
  pub some : 0 < end
  pub within : end ≤ length bytes
  pub begins : get_or bytes 0 0 ≡ first
  pub ended : ends (drop end bytes) ≡ true

-- the last terminal of the slice before this place does not go on after it
abbrev pub EndsAt : List ℕ → ℕ → Type 0
EndsAt bytes end = IsClosedAt bytes end ⊎ (IsRunTo 95 ends_label bytes end ⊎ IsRunTo 34 ends_tag bytes end)

-- The same of a slice and what follows it.
abbrev pub IsApart : List ℕ → List ℕ → Type 0
IsApart raw after =
    ((front : List ℕ) × (close : ℕ) × (raw ≡ front ++ close ∷ []) × IsUtf8 front × (is_close close ≡ true))
    ⊎ (((begins (λ b. b == 95) raw ≡ true) × (ends_label after ≡ true))
    ⊎ ((begins (λ b. b == 34) raw ≡ true) × (ends_tag after ≡ true)))
