use Rattle.std.proofs.Common.{◌≡◌, true, length}
use Rattle.std.specs.Str.{IsUtf8, chars}
use Rattle.nquads_core.specs.Terminal.{is_label_tail}
use Rattle.nquads_scan.proofs.FormLaws.{label_left}
use Rattle.nquads_scan.proofs.checks.is_label_tail.Given as goal

abbrev pub invariant-loop-c : goal.invariant-loop-c
invariant-loop-c l = record { utf8 : IsUtf8 l.rest; left : label_left l.after_dot (chars l.rest) ≡ true → is_label_tail (chars l.text) ≡ true }

abbrev pub decreases-loop-c : goal.decreases-loop-c
decreases-loop-c l = length (chars l.rest)
