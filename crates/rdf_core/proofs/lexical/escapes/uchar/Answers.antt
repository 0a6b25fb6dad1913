use Rattle.std.proofs.Common.{◌∙◌}
use Rattle.std.specs.Str.{chars}
use Rattle.rdf_core.proofs.EscapeSteps.{uchar_4, uchar_8, uchar_nil, uchar_none, option_weaker, names_after}
use Rattle.rdf_core.proofs.lexical.escapes.uchar.Goals as goal

pub returns-in_err-letter : goal.returns-in_err-letter
returns-in_err-letter c = rw c.from_residual.ensures (uchar_nil _ c.in_err-letter.ensures)

pub returns-then-letter-eq117 : goal.returns-then-letter-eq117
returns-then-letter-eq117 c =
    let e = uchar_4 (chars c.args.text.now) c.in_ok-letter.letter (chars c.in_ok-letter.digits.now) c.in_ok-letter.ensures.0 c.if-letter-eq117.true in
    option_weaker c.named_char.result c.named_char.ensures (λ h. e ∙ h)
    (λ p h. names_after _ c.args.text.now c.in_ok-letter.digits.now c.in_ok-letter.letter p.0 4 p.1.now c.in_ok-letter.ensures.0 (e ∙ h.0) h.1 h.2)

pub returns-then-letter-eq85 : goal.returns-then-letter-eq85
returns-then-letter-eq85 c =
    let e = uchar_8 (chars c.args.text.now) c.in_ok-letter.letter (chars c.in_ok-letter.digits.now) c.in_ok-letter.ensures.0 c.if-letter-eq85.true in
    option_weaker c.named_char-then-letter-eq85.result c.named_char-then-letter-eq85.ensures (λ h. e ∙ h)
    (λ p h. names_after _ c.args.text.now c.in_ok-letter.digits.now c.in_ok-letter.letter p.0 8 p.1.now c.in_ok-letter.ensures.0 (e ∙ h.0) h.1 h.2)

pub returns-else-letter-eq85 : goal.returns-else-letter-eq85
returns-else-letter-eq85 c =
    uchar_none (chars c.args.text.now) c.in_ok-letter.letter (chars c.in_ok-letter.digits.now) c.in_ok-letter.ensures.0 c.if-letter-eq117.false c.if-letter-eq85.false
