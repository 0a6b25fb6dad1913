use Rattle.std.proofs.Common.{◌∙◌, sym}
use Rattle.nquads_core.proofs.Runs.{blanks_end, blanks_stop, blanks_step}
use Rattle.nquads_core.proofs.token.skip_blanks.Goals as goal

pub returns-then-not-is_blank : goal.returns-then-not-is_blank
returns-then-not-is_blank c = sym (blanks_stop _ _ _ c.in-Some.ensures.0 (sym c.if-not-is_blank.ensures)) ∙ c.loop-c.invariant.left

pub loop-c-preserved : goal.loop-c-preserved
loop-c-preserved c = record { utf8 = c.in-Some.ensures.1; left = sym (blanks_step _ _ _ c.in-Some.ensures.0 (sym c.if-not-is_blank.ensures)) ∙ c.loop-c.invariant.left }

pub returns : goal.returns
returns c = sym (blanks_end _ c.in_default.ensures) ∙ c.loop-c.invariant.left
