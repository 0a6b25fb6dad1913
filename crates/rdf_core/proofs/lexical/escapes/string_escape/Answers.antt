use Rattle.std.proofs.Common.{◌∙◌, refl, sym}
use Rattle.rdf_core.proofs.EscapeSteps.{string_nil, string_echar, string_uchar, option_weaker, names_after, NamesChar-same}
use Rattle.rdf_core.proofs.lexical.escapes.string_escape.Goals as goal

pub returns-in_err-letter : goal.returns-in_err-letter
returns-in_err-letter c = rw c.from_residual.ensures (string_nil _ c.in_err-letter.ensures)

pub returns-in-Some : goal.returns-in-Some
returns-in-Some c =
    let e = c.in_ok-letter.ensures in
    let read = string_echar _ _ _ c.in-Some.c e.0 (sym c.in-Some.ensures.value) in
    names_after _ c.args.text.now c.in_ok-letter.after.now c.in_ok-letter.letter c.in-Some.c 0 c.in_ok-letter.after.now e.0 read refl e.1

pub returns-in-None : goal.returns-in-None
returns-in-None c =
    let read = string_uchar _ _ _ c.in_ok-letter.ensures.0 (sym c.in-None.ensures.value) in
    option_weaker c.uchar.result c.uchar.ensures (λ h. read ∙ h) (λ p h. NamesChar-same _ _ c.args.text.now p.0 p.1.now read h)
