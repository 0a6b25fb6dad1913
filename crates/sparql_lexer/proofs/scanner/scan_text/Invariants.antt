use Rattle.std.proofs.Common.{ℕ, List, ◌++◌, length}
use Rattle.sparql_lexer.specs.Colonless.{NameEndsAt}
use Rattle.sparql_lexer.specs.Scan.{Scans}
use Rattle.sparql_lexer.specs.Terminal.{Terminal, terminals}
use Rattle.sparql_lexer.proofs.scanner.scan_text.Given as goal

abbrev pub invariant-terminals : goal.invariant-terminals
invariant-terminals l = ((ts : List Terminal) (end : List ℕ) → Scans l.rest ts end → Scans l.text (terminals l.tokens.items ++ ts) end) × NameEndsAt l.rest l.end

abbrev pub decreases-terminals : goal.decreases-terminals
decreases-terminals l = length l.rest
