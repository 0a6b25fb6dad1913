-- The longest terminal of some kinds. Only private clauses use these definitions.
use Rattle.std.specs.Prelude.{◌≡◌, ◌≤◌, ℕ, List, ◌∷◌, length, Bool, true, ◌||◌, nat_eq, Option, Some, None}
use Rattle.std.specs.Borrow.{Bor}
use Rattle.sparql_lexer.specs.declared.token.Kind.{Kind}
use Rattle.sparql_lexer.specs.declared.token.Kind.TheVariants as kind
use Rattle.sparql_lexer.specs.Pattern.{Pattern, Matches}
use Rattle.sparql_lexer.specs.declared.token.Sign.{Sign}
use Rattle.sparql_lexer.specs.Scan.{Reads, Longest, Unreadable}
use Rattle.sparql_lexer.specs.Signs.{sign_of_two}

-- a number for each kind; all words have the same number, and so do all signs
abbrev pub row : Kind → ℕ
row kind.IriRef = 0
row kind.Variable = 1
row kind.PrefixedNamespace = 2
row kind.PrefixedName = 3
row kind.BlankLabel = 4
row kind.Anonymous = 5
row kind.LanguageTag = 6
row kind.Integer = 7
row kind.Decimal = 8
row kind.Double = 9
row kind.SignedInteger = 10
row kind.SignedDecimal = 11
row kind.SignedDouble = 12
row kind.ShortString = 13
row kind.LongString = 14
row (kind.Keyword k) = 15
row kind.Word = 15
row (kind.Sign s) = 16

-- the text begins with a terminal of the kind k, and no terminal of these rows at this place is
-- longer
pub record BestOf (rows : ℕ → Bool) (text : List ℕ) (k : Kind) (rest : List ℕ) : Type 0 where
  pub reads : Reads k text rest
  pub longest : (l : Kind) (other : List ℕ) → rows (row l) ≡ true → Reads l text other → length rest ≤ length other

-- the text does not begin with a terminal of these rows
pub record NoneOf (rows : ℕ → Bool) (text : List ℕ) : Type 0 where
  pub none : (l : Kind) (other : List ℕ) → rows (row l) ≡ true → Reads l text other → ⊥

-- the longest terminal of these rows at this place, or None if there is none
abbrev pub LongestOf : (ℕ → Bool) → List ℕ → Option (Kind × Bor (List ℕ)) → Type 0
LongestOf rows text None = NoneOf rows text
LongestOf rows text (Some p) = BestOf rows text p.0 p.1.now

-- the pattern describes the terminals of the kind k, and no other kind of its row has other
-- terminals
pub record IsRow (k : Kind) (a : Pattern) : Type 0 where
  pub reads : (text rest : List ℕ) → Matches a text rest → Reads k text rest
  pub only : (l : Kind) (text rest : List ℕ) → nat_eq (row k) (row l) ≡ true → Reads l text rest → Matches a text rest

-- the rows of one set or of the other
abbrev pub either : (ℕ → Bool) → (ℕ → Bool) → ℕ → Bool
either m n k = m k || n k

-- keywords and other words, PNAME_NS and PNAME_LN
abbrev pub name_rows : ℕ → Bool
name_rows = either (nat_eq 15) (either (nat_eq 2) (nat_eq 3))

-- INTEGER, DECIMAL and DOUBLE without a sign
abbrev pub number_rows : ℕ → Bool
number_rows = either (nat_eq 7) (either (nat_eq 8) (nat_eq 9))

-- INTEGER, DECIMAL and DOUBLE with a sign
abbrev pub signed_rows : ℕ → Bool
signed_rows = either (nat_eq 10) (either (nat_eq 11) (nat_eq 12))

-- IRIREF, ANON and the strings
abbrev pub enclosed_rows : ℕ → Bool
enclosed_rows = either (either (nat_eq 0) (nat_eq 5)) (either (nat_eq 13) (nat_eq 14))

-- variables, BLANK_NODE_LABEL and LANGTAG
abbrev pub marked_rows : ℕ → Bool
marked_rows = either (nat_eq 1) (either (nat_eq 4) (nat_eq 6))

-- all kinds, the punctuation signs included
abbrev pub every_row : ℕ → Bool
every_row = either name_rows (either (either number_rows signed_rows) (either (either enclosed_rows marked_rows) (nat_eq 16)))

-- the longest terminal at a place, or None if there is no terminal
abbrev pub IsLongestTerminal : List ℕ → Option (Kind × Bor (List ℕ)) → Type 0
IsLongestTerminal place None = Unreadable place
IsLongestTerminal place (Some p) = Longest p.0 place p.1.now

-- the second character of a sign with the first character c
abbrev pub IsSecond : ℕ → List ℕ → Option (Sign × Bor (List ℕ)) → Type 0
IsSecond c text None = (d : ℕ) (rest : List ℕ) → text ≡ d ∷ rest → sign_of_two c d ≡ None
IsSecond c text (Some p) = (d : ℕ) × (text ≡ d ∷ p.1.now) × (sign_of_two c d ≡ Some p.0)
