use Rattle.std.proofs.Common.{ℕ, List, ◌≤◌, length, drop}
use Rattle.sparql_lexer.specs.Scan.{Scans}
use Rattle.sparql_lexer.specs.Terminal.{terminals}
use Rattle.query_diagnosis.proofs.PlaceSteps.{IsRead}
use Rattle.query_diagnosis.proofs.places.offset_of.Given as goal

abbrev pub invariant-loop-i : goal.invariant-loop-i
invariant-loop-i l =
    (length l.rest ≤ length l.text)
    × ((end : List ℕ) → Scans l.text (terminals l.tokens) end → IsRead l.text l.rest end l.i (terminals (drop l.i l.tokens)))
