use Rattle.std.proofs.Common.{◌∙◌, sym, ◌++◌, ap, List, ℕ}
use Rattle.nquads_core.proofs.Runs.{label_nil, label_no, label_front, label_yes}
use Rattle.nquads_core.proofs.token.read_label.Goals as goal

pub returns-in_default : goal.returns-in_default
returns-in_default c = label_nil _ c.in_default.ensures

pub returns-then-not-is_label_start : goal.returns-then-not-is_label_start
returns-then-not-is_label_start c = label_no _ _ _ c.in-Some.ensures.0 (sym c.if-not-is_label_start.ensures.value)

pub text_before-requires : goal.text_before-requires
text_before-requires c = (_, label_front c.in-Some.c c.args.text.now c.in-Some.after.now c.skip_label_tail-rest.result.now c.utf8.text c.skip_label_tail-rest.utf8 c.in-Some.ensures.0 c.skip_label_tail-rest.ensures)

pub returns : goal.returns
returns c =
    label_yes c.in-Some.c c.args.text.now c.in-Some.after.now c.skip_label_tail-rest.result.now _ c.utf8.text c.skip_label_tail-rest.utf8 c.in-Some.ensures.0 (sym c.if-not-is_label_start.ensures.value) c.skip_label_tail-rest.ensures (c.text_before.ensures ∙ ap (λ (t : List ℕ). t ++ c.skip_label_tail-rest.result.now) (sym c.in_ok-label.ensures.ok ∙ sym c.from_string.ensures.value))
