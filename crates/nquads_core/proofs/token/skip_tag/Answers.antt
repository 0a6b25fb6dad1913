use Rattle.std.proofs.Common.{◌∙◌, sym}
use Rattle.nquads_core.proofs.Runs.{primary_end, primary_stop, primary_step, primary_hyphen}
use Rattle.nquads_core.proofs.token.skip_tag.Goals as goal

pub loop-c-preserved : goal.loop-c-preserved
loop-c-preserved c = record { utf8 = c.in-Some.ensures.1; left = sym (primary_step _ _ _ c.in-Some.ensures.0 (sym c.if-is_ascii_alphabetic.ensures.value)) ∙ c.loop-c.invariant.left }

pub returns-then-is_hyphen : goal.returns-then-is_hyphen
returns-then-is_hyphen c = c.skip_subtags.ensures ∙ sym (primary_hyphen _ _ _ c.in-Some.ensures.0 (sym c.if-is_ascii_alphabetic.ensures.value) (sym c.if-is_hyphen.ensures)) ∙ c.loop-c.invariant.left

pub returns-else-is_hyphen : goal.returns-else-is_hyphen
returns-else-is_hyphen c = sym (primary_stop _ _ _ c.in-Some.ensures.0 (sym c.if-is_ascii_alphabetic.ensures.value) (sym c.if-is_hyphen.ensures)) ∙ c.loop-c.invariant.left

pub returns : goal.returns
returns c = sym (primary_end _ c.in_default.ensures) ∙ c.loop-c.invariant.left
