use Rattle.std.proofs.Common.{◌≡◌, ◌≤◌, drop}
use Rattle.sparql_lexer.specs.Terminal.{terminals}
use Rattle.sparql_read.specs.Depth.{goes_over, max_depth}
use Rattle.sparql_read.proofs.depth.is_too_deep.Given as goal

abbrev pub invariant-loop-token : goal.invariant-loop-token
invariant-loop-token l = (goes_over l.depth (terminals (drop l.token-index l.tokens)) ≡ goes_over 0 (terminals l.tokens)) × (l.depth ≤ max_depth)
