use Rattle.text_dict.proofs.FormLaws.{form_at}
use Rattle.text_dict.proofs.text_dict.TextDict.text.Goals as goal

pub returns-clause-form : goal.returns-clause-form
returns-clause-form c = form_at c.self.inside.texts c.args.n c.text.result.now c.self.invariant.forms c.text.ensures.value
