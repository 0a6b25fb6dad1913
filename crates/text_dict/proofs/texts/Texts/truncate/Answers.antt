use Rattle.std.proofs.Common.{◌∷◌, length, take, get_or, sym, ap, ◌∙◌, arith}
use Rattle.std.proofs.lemmas.List.{take_all}
use Rattle.text_dict.proofs.TextLaws.{length_texts, truncated}
use Rattle.text_dict.proofs.texts.Texts.truncate.Goals as goal

pub returns-then-len : goal.returns-then-len
returns-then-len c =
    let same = length_texts c.self.inside.bytes.items 0 c.self.inside.ends.items in
    let seen = ap length c.self.view_is in
    record { value = sym (take_all c.args.len c.args.self.now (omega (arith, same, seen, c.if-len.true, c.len.ensures, c.self.inside.ends.ok.0))) }

pub invariant_of-self : goal.invariant_of-self
invariant_of-self c =
    (truncated c.self.inside.bytes.items c.truncate.new.self.items c.self.inside.ends.items c.truncate-2.new.self.items c.args.len c.start_of.result c.self.invariant
    (omega (arith, c.if-len.false, c.len.ensures, c.self.inside.ends.ok.0))
    (c.start_of.ensures.value ∙ ap (λ es. get_or (0 ∷ es) c.args.len 0) c.as_slice.ensures.value) c.truncate.ensures.items c.truncate-2.ensures.items).0

pub returns : goal.returns
returns c = record {
  value = (truncated c.self.inside.bytes.items c.truncate.new.self.items c.self.inside.ends.items c.truncate-2.new.self.items c.args.len c.start_of.result c.self.invariant
      (omega (arith, c.if-len.false, c.len.ensures, c.self.inside.ends.ok.0))
      (c.start_of.ensures.value ∙ ap (λ es. get_or (0 ∷ es) c.args.len 0) c.as_slice.ensures.value) c.truncate.ensures.items c.truncate-2.ensures.items).1
      ∙ ap (take c.args.len) c.self.view_is;
}
