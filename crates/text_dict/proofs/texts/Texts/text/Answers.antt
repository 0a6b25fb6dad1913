use Rattle.std.proofs.Common.{length, ap, arith}
use Rattle.text_dict.proofs.TextLaws.{length_texts}
use Rattle.text_dict.proofs.texts.Texts.text.Goals as goal

pub text_at-requires-clause-within : goal.text_at-requires-clause-within
text_at-requires-clause-within c =
    let same = length_texts c.self.inside.bytes.items 0 c.self.inside.ends.items in
    let seen = ap length c.self.view_is in
    let ends = ap length c.as_slice-2.ensures.value in
    omega (arith, c.requires.within, same, seen, ends)
