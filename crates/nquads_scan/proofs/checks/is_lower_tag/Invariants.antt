use Rattle.std.proofs.Common.{◌≡◌, true, drop}
use Rattle.nquads_scan.specs.Plain.{tag_left}
use Rattle.nquads_scan.proofs.checks.is_lower_tag.Given as goal

abbrev pub invariant-loop-b : goal.invariant-loop-b
invariant-loop-b l = tag_left l.primary l.fresh (drop l.b-index l.bytes) ≡ true → tag_left true true l.bytes ≡ true
