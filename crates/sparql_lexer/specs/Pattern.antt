-- The notation of the productions of terminals, as in the standard (SPARQL 1.1 Query Language,
-- section 19.8).
use Rattle.std.specs.Prelude.{◌≡◌, ◌≤◌, ℕ, List, ◌∷◌, length, Bool, true, nat_eq, Option, Some, None}
use Rattle.std.specs.Borrow.{Bor}

infixr 30 ◌▸◌
infixr 20 ◌or◌
-- the right side of a production of terminals
pub data Pattern : Type 0 where
  nothing : Pattern
  -- one character for which the test returns true
  character : (ℕ → Bool) → Pattern
  -- A B: A, followed by B
  ◌▸◌ : Pattern → Pattern → Pattern
  -- A | B
  ◌or◌ : Pattern → Pattern → Pattern
  -- A*
  many : Pattern → Pattern

-- this one character
abbrev pub is : ℕ → Pattern
is c = character (nat_eq c)

-- A+
abbrev pub some : Pattern → Pattern
some a = a ▸ many a

-- A?
abbrev pub perhaps : Pattern → Pattern
perhaps a = nothing or a

-- the text is a text of the pattern followed by `rest`
pub data Matches : Pattern → List ℕ → List ℕ → Type 0 where
  is_nothing : {text : List ℕ} → Matches nothing text text
  is_character : {p : ℕ → Bool} {c : ℕ} {rest : List ℕ} → p c ≡ true → Matches (character p) (c ∷ rest) rest
  both : {a b : Pattern} {text mid rest : List ℕ} → Matches a text mid → Matches b mid rest → Matches (a ▸ b) text rest
  left : {a b : Pattern} {text rest : List ℕ} → Matches a text rest → Matches (a or b) text rest
  right : {a b : Pattern} {text rest : List ℕ} → Matches b text rest → Matches (a or b) text rest
  no_more : {a : Pattern} {text : List ℕ} → Matches (many a) text text
  one_more : {a : Pattern} {text mid rest : List ℕ} → Matches a text mid → Matches (many a) mid rest → Matches (many a) text rest

-- the longest text of the pattern that `text` begins with; `rest` is the text after it
pub record EndsAt (a : Pattern) (text rest : List ℕ) : Type 0 where
  pub matches : Matches a text rest
  pub longest : (other : List ℕ) → Matches a text other → length rest ≤ length other

-- the text does not begin with a text of the pattern
pub record Nowhere (a : Pattern) (text : List ℕ) : Type 0 where
  pub none : (other : List ℕ) → Matches a text other → ⊥

-- the result of a function that finds the longest text of a pattern, or None if there is none
abbrev pub Ends : Pattern → List ℕ → Option (Bor (List ℕ)) → Type 0
Ends a text None = Nowhere a text
Ends a text (Some rest) = EndsAt a text rest.now
