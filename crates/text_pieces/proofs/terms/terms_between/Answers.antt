use Rattle.dict_core.proofs.MergingSteps.{interned}
use Rattle.text_pieces.proofs.AddingLaws.{range_more}
use Rattle.text_pieces.proofs.FormLaws.{number_of_term}
use Rattle.text_pieces.proofs.terms.terms_between.Goals as goal

pub loop-n-preserved : goal.loop-n-preserved
loop-n-preserved c = λ terms forms.
    let text = c.text.result.now in
    let t = c.in_ok-term_of.field-0 in
    let r = c.in_ok-term_of.ensures.term in
    range_more terms c.loop-n.dict c.intern.new.self c.args.from c.loop-n.n t (c.loop-n.invariant terms forms) c.loop-n.auto.n
    (number_of_term terms c.args.texts.now.texts forms c.loop-n.n t text r.occurs r.form c.text.ensures.value)
    (interned c.loop-n.dict c.intern.new.self t c.in-Ok.ensures.known c.in-Ok.ensures.new)
