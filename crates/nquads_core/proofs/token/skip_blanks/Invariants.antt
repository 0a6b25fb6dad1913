use Rattle.std.proofs.Common.{◌≡◌, length}
use Rattle.std.specs.Str.{IsUtf8, chars}
use Rattle.nquads_core.specs.LineParser.{skip_blanks}
use Rattle.nquads_core.proofs.token.skip_blanks.Given as goal

abbrev pub invariant-loop-c : goal.invariant-loop-c
invariant-loop-c l = record { utf8 : IsUtf8 l.rest; left : skip_blanks (chars l.rest) ≡ skip_blanks (chars l.text) }

abbrev pub decreases-loop-c : goal.decreases-loop-c
decreases-loop-c l = length (chars l.rest)
