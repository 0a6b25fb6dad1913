-- Texts in which no [140] PNAME_NS begins. Only private clauses use these definitions.
use Rattle.std.specs.Prelude.{◌<◌, ℕ, List, ◌∷◌, length, Bool, ◌||◌, nat_eq}
use Rattle.sparql_lexer.specs.Characters.{is_name_part}
use Rattle.sparql_lexer.specs.Names.{namespace}
use Rattle.sparql_lexer.specs.Pattern.{Matches, EndsAt, many, character}

-- the second text is a suffix of the first
pub data HasSuffix : List ℕ → List ℕ → Type 0 where
  here : {ts : List ℕ} → HasSuffix ts ts
  next : {c : ℕ} {ts rest : List ℕ} → HasSuffix ts rest → HasSuffix (c ∷ ts) rest

-- PN_CHARS | '.' of [168] PN_PREFIX
abbrev pub is_name_or_dot : ℕ → Bool
is_name_or_dot c = is_name_part c || nat_eq 46 c

-- no PNAME_NS begins in the text before `end`
pub record HasNoNamespace (text end : List ℕ) : Type 0 where
  pub none : (place rest : List ℕ) → HasSuffix text place → length end < length place → Matches namespace place rest → ⊥

-- the run of name characters and dots that the text begins with ends at `end`, if `end` is not the
-- whole text
abbrev pub NameEndsAt : List ℕ → List ℕ → Type 0
NameEndsAt text end = length end < length text → EndsAt (many (character is_name_or_dot)) text end
