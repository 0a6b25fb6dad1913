use Rattle.std.proofs.Common.{length, ap, arith}
use Rattle.text_dict.proofs.TextLaws.{length_texts}
use Rattle.text_dict.proofs.texts.Texts.len.Goals as goal

pub returns-clause-value : goal.returns-clause-value
returns-clause-value c =
    let same = length_texts c.self.inside.bytes.items 0 c.self.inside.ends.items in
    let seen = ap length c.self.view_is in
    omega (arith, c.len.ensures, c.self.inside.ends.ok.0, same, seen)
