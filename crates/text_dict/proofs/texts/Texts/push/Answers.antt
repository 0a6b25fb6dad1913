use Rattle.std.proofs.Common.{◌≡◌, ◌++◌, ◌∷◌, [], length, ap, ◌∙◌, sym, subst, arith}
use Rattle.std.proofs.lemmas.List.{length-append}
use Rattle.text_dict.specs.Texts.{AreEnds, texts_after}
use Rattle.text_dict.proofs.TextLaws.{ends_pushed, texts_pushed}
use Rattle.text_dict.proofs.texts.Texts.push.Goals as goal

pub invariant_of-self-2 : goal.invariant_of-self-2
invariant_of-self-2 c =
    let bytes = c.self.inside.bytes.items in
    let grown : c.extend_from_slice.new.self.items ≡ bytes ++ c.args.text.now = c.in_ok-extend_from_slice.ensures.items in
    let last : c.len.result ≡ length c.extend_from_slice.new.self.items = omega (arith, c.len.ensures, c.extend_from_slice.new.self.ok.0) in
    let ends : c.push_reserved.new.self.items ≡ c.self.inside.ends.items ++ length c.extend_from_slice.new.self.items ∷ [] =
    c.push_reserved.ensures.items ∙ (λ i. c.in_ok-reserve.ensures.items i ++ last i ∷ []) in
    subst (λ e. AreEnds 0 e (length c.extend_from_slice.new.self.items)) (sym ends)
    (ends_pushed 0 c.self.inside.ends.items (length bytes) (length c.extend_from_slice.new.self.items) c.self.invariant
    (omega (arith, ap length grown, length-append bytes c.args.text.now)))

pub returns-clause-pushed : goal.returns-clause-pushed
returns-clause-pushed c =
    let bytes = c.self.inside.bytes.items in
    let grown : c.extend_from_slice.new.self.items ≡ bytes ++ c.args.text.now = c.in_ok-extend_from_slice.ensures.items in
    let last : c.len.result ≡ length c.extend_from_slice.new.self.items = omega (arith, c.len.ensures, c.extend_from_slice.new.self.ok.0) in
    let ends : c.push_reserved.new.self.items ≡ c.self.inside.ends.items ++ length (bytes ++ c.args.text.now) ∷ [] =
    c.push_reserved.ensures.items ∙ (λ i. c.in_ok-reserve.ensures.items i ++ (last ∙ ap length grown) i ∷ []) in
    (λ i. texts_after (grown i) 0 (ends i)) ∙ texts_pushed bytes c.args.text.now 0 c.self.inside.ends.items c.self.invariant ∙ ap (λ t. t ++ c.args.text.now ∷ []) c.self.view_is
