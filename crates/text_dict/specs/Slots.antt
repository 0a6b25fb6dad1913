-- A table with open addressing (a choice of this project). A slot is 0, or it has the lower bits of the hash of a text
-- and the number of the text. Only private clauses use these definitions.
use Rattle.std.specs.Prelude.{◌≡◌, ◌≢◌, ◌⊎◌, ℕ, ◌+◌, ◌-◌, ◌*◌, ◌/◌, ◌%◌, ◌<◌, ◌==◌, Bool, get_or, List, [], ◌∷◌, ◌++◌, length, take, drop, set, slice_get, Some, bit_and}
use Rattle.text_dict.specs.declared.slots.Search.{Search}
use Rattle.text_dict.specs.declared.slots.Search.TheVariants.{Found, Free, Full}

-- the numbers of a slot are below this: 2^34
abbrev pub most_numbers : ℕ
most_numbers = 17179869184

-- the tag of a hash is its remainder by this number: 2^30
abbrev pub tags : ℕ
tags = 1073741824

-- the slot of the text with number n and hash h
abbrev pub slot_of : ℕ → ℕ → ℕ
slot_of h n = h % tags * most_numbers + (n + 1)

-- where the search for a hash begins
abbrev pub start_of : ℕ → List ℕ → ℕ
start_of h slots = bit_and h (length slots - 1)

-- the slots in the order in which they are searched: from `start` to the end, and then from the front
abbrev pub path : List ℕ → ℕ → List ℕ
path slots start = drop start slots ++ take start slots

-- the slot is on the path, and no empty one is before it
abbrev pub Leads : ℕ → List ℕ → Type 0
Leads slot [] = ⊥
Leads slot (s ∷ path) = (s ≡ slot) ⊎ ((s ≢ 0) × Leads slot path)

-- each text is found
abbrev pub AreReached : (List ℕ → ℕ) → List (List ℕ) → List ℕ → Type 0
AreReached hash texts slots = (n : ℕ) (text : List ℕ) → slice_get texts n ≡ Some text
    → Leads (slot_of (hash text) n) (path slots (start_of (hash text) slots))

-- no slot is empty
abbrev pub AreUsed : List ℕ → Type 0
AreUsed [] = Unit {0}
AreUsed (s ∷ slots) = (s ≢ 0) × AreUsed slots

-- no slot is empty, and none is that of this text
abbrev pub ArePassed : List (List ℕ) → List ℕ → ℕ → List ℕ → Type 0
ArePassed texts text h [] = Unit {0}
ArePassed texts text h (s ∷ slots) =
    (s ≢ 0) × ((n : ℕ) → slice_get texts n ≡ Some text → s ≢ slot_of h n) × ArePassed texts text h slots

-- what a search through these slots comes to
abbrev pub IsProbe : List (List ℕ) → List ℕ → ℕ → List ℕ → Search → Type 0
IsProbe texts text h slots (Found n) = slice_get texts n ≡ Some text
IsProbe texts text h slots (Free i) = (slice_get slots i ≡ Some 0) × ArePassed texts text h (take i slots)
IsProbe texts text h slots Full = ArePassed texts text h slots

-- a slot with this hash is found, once it is put at this empty place
abbrev pub IsPlace : List ℕ → ℕ → ℕ → Type 0
IsPlace slots h i = (slice_get slots i ≡ Some 0) × ((slot : ℕ) → Leads slot (path (set slots i slot) (start_of h slots)))

-- the search reaches no slot of this text
abbrev pub IsNowhere : List (List ℕ) → List ℕ → ℕ → List ℕ → Type 0
IsNowhere texts text h slots = (n : ℕ) → slice_get texts n ≡ Some text → Leads (slot_of h n) (path slots (start_of h slots)) → ⊥

-- what a search through the whole table comes to
abbrev pub IsSearch : List (List ℕ) → List ℕ → ℕ → List ℕ → Search → Type 0
IsSearch texts text h slots (Found n) = slice_get texts n ≡ Some text
IsSearch texts text h slots (Free i) = IsPlace slots h i × IsNowhere texts text h slots
IsSearch texts text h slots Full = IsNowhere texts text h slots

-- the slot was put into the table: its text is found, and so is each that was found before
pub record IsPut (earlier : List ℕ) (slot : ℕ) (later : List ℕ) : Type 0 where
  pub len : length later ≡ length earlier
  pub kept : (s start : ℕ) → s ≢ 0 → Leads s (path earlier start) → Leads s (path later start)
  pub found : (h n : ℕ) → n + 1 < most_numbers → slot ≡ slot_of h n → Leads slot (path later (start_of h later))

-- the slots of a table are found in another one
abbrev pub AreMoved : List ℕ → List ℕ → Type 0
AreMoved slots longer = (h n i : ℕ) → n + 1 < most_numbers → slice_get slots i ≡ Some (slot_of h n)
    → Leads (slot_of h n) (path longer (start_of h longer))

-- the search for a hash begins at a slot that has its tag
abbrev pub begins_at_tag : List ℕ → ℕ → Bool
begins_at_tag slots h = get_or slots (start_of h slots) 0 / most_numbers == h % tags
