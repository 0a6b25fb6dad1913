-- What a call of a device does to its count of failures, if the device exposes one.
-- (What it does to its bytes is said by std's words on known bytes.)
use Rattle.std.specs.Prelude.{◌≡◌, ℕ, ◌+◌, ◌^◌, ◌-◌, min, ⊤, Option, Some, None, Result, MatchResult}

-- One more failure. A count of 2 ^ 64 - 1 stays, and then counts as risen.
abbrev pub Rises : Option ℕ → Option ℕ → Type 0
Rises None new = ⊤
Rises (Some n) None = ⊥
Rises (Some n) (Some m) = m ≡ min (n + 1) (2 ^ 64 - 1)

-- No failure.
abbrev pub Stays : Option ℕ → Option ℕ → Type 0
Stays None new = ⊤
Stays (Some n) None = ⊥
Stays (Some n) (Some m) = m ≡ n

-- An Err raises the count, an Ok keeps it.
abbrev pub Counts : {T E : Type 0} → Option ℕ → Option ℕ → Result T E → Type 0
Counts old new r = MatchResult r (λ _. Stays old new) (λ _. Rises old new)
