use Rattle.std.proofs.Common.{sym}
use Rattle.nquads_core.proofs.Runs.{tag_nil, tag_no, tag_front, tag_yes}
use Rattle.nquads_core.proofs.token.read_tag.Goals as goal

pub returns-in_default : goal.returns-in_default
returns-in_default c = tag_nil _ c.in_default.ensures

pub returns-then-not-is_ascii_alphabetic : goal.returns-then-not-is_ascii_alphabetic
returns-then-not-is_ascii_alphabetic c = tag_no _ _ _ c.in-Some.ensures.0 (sym c.if-not-is_ascii_alphabetic.ensures.value)

pub text_before-requires : goal.text_before-requires
text_before-requires c = (_, tag_front c.args.text.now c.skip_tag-rest.result.now c.utf8.text c.skip_tag-rest.utf8 c.skip_tag-rest.ensures)

pub returns : goal.returns
returns c =
    tag_yes c.in-Some.c c.args.text.now c.in-Some.field-0-1.now c.skip_tag-rest.result.now _ _ c.utf8.text c.skip_tag-rest.utf8 c.in-Some.ensures.0 (sym c.if-not-is_ascii_alphabetic.ensures.value) c.skip_tag-rest.ensures c.text_before.ensures c.in_ok-tag.ensures.value
