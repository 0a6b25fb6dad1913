-- What a command must put out for a document.
use Rattle.std.specs.Prelude.{◌≡◌, ℕ, List, Result, Ok, Err}
use Rattle.rdf_core.specs.QuadParts.{QuadParts}
use Rattle.nquads_core.specs.Lines.{lines}
use Rattle.nquads_core.specs.Pieces.{HaveStatements, IsBadLine}
use Rattle.spq_core.specs.Listing.{counts_of, listing_of}
use Rattle.spq_core.specs.Outcome.{Failure, query, bad_line, IsQueryResult}
use Rattle.spq_command.specs.declared.command.Command.{Command}
use Rattle.spq_command.specs.declared.command.Command.TheVariants.{Select, Check, Terms}

-- what a command requests, without how it is done
pub data Request : Type 0 where
  select : List ℕ → Request
  check : Request
  terms : Request

-- what a command requests
abbrev pub request_of : Command → Request
request_of (Select text reading rows) = select text
request_of (Check reading) = check
request_of (Terms reading) = terms

-- every line is well-formed, and this is the text of their statements
pub record IsTextOf (text_of : List QuadParts → List ℕ) (doc text : List ℕ) : Type 0 where
  pub quads : List QuadParts
  pub statements : HaveStatements (lines doc) quads
  pub printed : text ≡ text_of quads

-- the text of the quads, or the first malformed line
abbrev pub IsListing : (List QuadParts → List ℕ) → List ℕ → Result (List ℕ) Failure → Type 0
IsListing text_of doc (Ok text) = IsTextOf text_of doc text
IsListing text_of doc (Err (query f)) = ⊥
IsListing text_of doc (Err (bad_line n)) = IsBadLine (lines doc) n

-- the output of a request for a document, or what is wrong with one of them
abbrev pub IsOutput : Request → List ℕ → Result (List ℕ) Failure → Type 0
IsOutput (select text) doc result = IsQueryResult doc text result
IsOutput check doc result = IsListing counts_of doc result
IsOutput terms doc result = IsListing listing_of doc result
