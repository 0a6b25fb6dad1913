use Rattle.std.proofs.Common.{◌∙◌, sym}
use Rattle.nquads_core.proofs.Runs.{subtags_end, subtags_stop, subtags_step}
use Rattle.nquads_core.proofs.token.skip_subtags.Goals as goal

pub returns-then-not-is_subtag_char : goal.returns-then-not-is_subtag_char
returns-then-not-is_subtag_char c = sym (subtags_stop _ _ _ c.in-Some.ensures.0 (sym c.if-not-is_subtag_char.ensures)) ∙ c.loop-c.invariant.left

pub loop-c-preserved : goal.loop-c-preserved
loop-c-preserved c = record { utf8 = c.in-Some.ensures.1; left = sym (subtags_step _ _ _ c.in-Some.ensures.0 (sym c.if-not-is_subtag_char.ensures)) ∙ c.loop-c.invariant.left }

pub returns : goal.returns
returns c = sym (subtags_end _ c.in_default.ensures) ∙ c.loop-c.invariant.left
