use Rattle.std.proofs.Common.{◌≡◌, length}
use Rattle.std.specs.Str.{IsUtf8, chars}
use Rattle.nquads_core.specs.LineParser.{tag_tail_at}
use Rattle.nquads_core.proofs.token.skip_tag.Given as goal

abbrev pub invariant-loop-c : goal.invariant-loop-c
invariant-loop-c l = record { utf8 : IsUtf8 l.rest; left : (tag_tail_at (chars l.rest)).1 ≡ (tag_tail_at (chars l.text)).1 }

abbrev pub decreases-loop-c : goal.decreases-loop-c
decreases-loop-c l = length (chars l.rest)
