-- The place of a rejected query (a choice of this project, not fixed by the standard).
use Rattle.std.specs.Prelude.{◌≡◌, ℕ, ◌+◌, ◌≤◌, ◌<◌, List, length, take, Bool, true, false, Option, Some, None}
use Rattle.sparql_lexer.specs.Terminal.{Terminal}
use Rattle.sparql_lexer.specs.Scan.{Scans}
use Rattle.sparql_read.specs.Depth.{is_too_deep}
use Rattle.sparql_grammar.specs.Prologue.{declarations, has_undefined_prefix, lacks_declaration}
use Rattle.sparql_read.specs.RelativeIri.{has_relative_iri}
use Rattle.sparql_read.specs.declared.fault.QueryFault.{QueryFault}
use Rattle.sparql_read.specs.declared.fault.QueryFault.TheVariants.{Syntax, UndefinedPrefix, RelativeIri, BindScope, BlankReuse, TooDeep, Memory}
use Rattle.query_diagnosis.specs.declared.diagnosis.Diagnosis.{Diagnosis}
use Rattle.query_diagnosis.specs.declared.rules.Breach.{Breach}
use Rattle.query_diagnosis.specs.Position.{IsPosition}
use Rattle.query_diagnosis.specs.QueryPrefix.{IsQueryPrefix}
use Rattle.query_diagnosis.specs.TerminalPlace.{IsTerminalPlace}

-- the test fails for the terminals before the terminal n, and passes with it
pub record IsFirst (test : List Terminal → Bool) (ts : List Terminal) (n : ℕ) : Type 0 where
  pub in_text : n < length ts
  pub before : test (take n ts) ≡ false
  pub here : test (take (n + 1) ts) ≡ true

-- The terminal n is the one at which the rule rejects the terminals. For a syntax error, some query
-- begins with the terminals before it. It is the first prefixed name without a declaration, the
-- first relative IRI, or the first bracket that is nested too deep. For the rules on BIND and on
-- labels nothing is said of it.
abbrev pub IsRejectedAt : QueryFault → List Terminal → ℕ → Type 0
IsRejectedAt Syntax ts n = IsQueryPrefix (take n ts)
IsRejectedAt UndefinedPrefix ts n = IsFirst (lacks_declaration (declarations ts)) ts n
IsRejectedAt RelativeIri ts n = IsFirst has_relative_iri ts n
IsRejectedAt BindScope ts n = Unit {0}
IsRejectedAt BlankReuse ts n = Unit {0}
IsRejectedAt TooDeep ts n = IsFirst is_too_deep ts n
IsRejectedAt Memory ts n = Unit {0}

-- the place of a terminal of the text at which the rule rejects it, or of the end of its terminals
pub record IsPlace (text : List ℕ) (fault : QueryFault) (at : ℕ) : Type 0 where
  pub terminals : List Terminal
  pub end : List ℕ
  pub scans : Scans text terminals end
  pub number : ℕ
  pub in_text : number ≤ length terminals
  pub rejected : IsRejectedAt fault terminals number
  pub place : IsTerminalPlace text number at

-- the offset of the diagnosis is the place of the text for its rule, and the position is that place
pub record IsExplained (text : List ℕ) (d : Diagnosis) : Type 0 where
  pub place : IsPlace text d.fault d.offset
  pub position : IsPosition text d.offset d.position

-- Words that only private clauses cite.

-- the rule rejects these terminals, as far as they alone decide that
abbrev pub Rejects : QueryFault → List Terminal → Type 0
Rejects UndefinedPrefix ts = has_undefined_prefix ts ≡ true
Rejects RelativeIri ts = has_relative_iri ts ≡ true
Rejects TooDeep ts = is_too_deep ts ≡ true
Rejects _ ts = Unit {0}

-- the terminal of a breach, or the first one if none is known
abbrev pub terminal_of : Option Breach → ℕ
terminal_of None = 0
terminal_of (Some b) = b.at
