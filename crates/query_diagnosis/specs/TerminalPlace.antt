-- The places of the terminals in a text (SPARQL 1.1 Query Language, section 19.8). Terminals are
-- counted from 0.
use Rattle.std.specs.Prelude.{◌≡◌, ℕ, zero, suc, ◌+◌, List, [], ◌∷◌, length}
use Rattle.sparql_lexer.specs.declared.token.Kind.{Kind}
use Rattle.sparql_lexer.specs.Blanks.{after_blanks}
use Rattle.sparql_lexer.specs.Scan.{Longest}

-- the text after its first n terminals
pub data IsAfter : ℕ → List ℕ → List ℕ → Type 0 where
  none : {text : List ℕ} → IsAfter 0 text text
  one_more : {n : ℕ} {text place rest left : List ℕ} {k : Kind} → after_blanks text ≡ place → Longest k place rest → IsAfter n rest left → IsAfter (suc n) text left

-- The text from its next terminal on: white space and comments do not count, unless nothing else is
-- left.
abbrev pub or_else : List ℕ → List ℕ → List ℕ
or_else left [] = left
or_else left (c ∷ cs) = c ∷ cs

abbrev pub from_next : List ℕ → List ℕ
from_next left = or_else left (after_blanks left)

-- The place of the terminal n, by the number of characters before it. If the text has n terminals,
-- it is the place where no terminal begins, or the end of the last terminal.
pub record IsTerminalPlace (text : List ℕ) (n at : ℕ) : Type 0 where
  pub left : List ℕ
  pub after : IsAfter n text left
  pub begins : at + length (from_next left) ≡ length text
