-- What the laws on results say (a choice of this project).
use Rattle.std.specs.Prelude.{◌≡◌, ℕ, List, Result}
use Rattle.spq_core.specs.Outcome.{IsQueryResult, Failure}
use Rattle.spq_core.specs.Output.{IsOutput, Request}

-- a document and a query text have at most one result
abbrev pub OneOutcome : Type 0
OneOutcome = (doc text : List ℕ) (r s : Result (List ℕ) Failure) → IsQueryResult doc text r → IsQueryResult doc text s → r ≡ s

-- a request and a document have at most one output
abbrev pub OneOutput : Type 0
OneOutput = (request : Request) (doc : List ℕ) (r s : Result (List ℕ) Failure) → IsOutput request doc r → IsOutput request doc s → r ≡ s
