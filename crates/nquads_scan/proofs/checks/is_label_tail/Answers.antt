use Rattle.std.proofs.Common.{sym}
use Rattle.std.specs.Str.{chars}
use Rattle.nquads_scan.proofs.FormLaws.{left_end, left_step, left_tail}
use Rattle.nquads_scan.proofs.checks.is_label_tail.Goals as goal

pub loop-c-init : goal.loop-c-init
loop-c-init c = record { utf8 = c.utf8.text; left = left_tail (chars c.args.text.now) }

pub loop-c-preserved : goal.loop-c-preserved
loop-c-preserved c = record {
  utf8 = c.in-Some.ensures.1;
  left = λ h. c.loop-c.invariant.left (left_step c.loop-c.after_dot c.in-Some.c (chars c.loop-c.rest.now) (chars c.in-Some.after.now) c.in-Some.ensures.0 (sym c.if-not-is_label_part.ensures) h);
}

pub returns : goal.returns
returns c = λ h. c.loop-c.invariant.left (left_end c.loop-c.after_dot (chars c.loop-c.rest.now) c.in_default.ensures h)
