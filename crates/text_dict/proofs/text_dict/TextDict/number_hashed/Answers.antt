use Rattle.std.proofs.Common.{arith}
use Rattle.std.proofs.lemmas.Option.{slice_get_within}
use Rattle.text_dict.proofs.FormLaws.{form_at}
use Rattle.text_dict.proofs.text_dict.TextDict.number_hashed.Goals as goal

pub returns-in-Found-clause-form : goal.returns-in-Found-clause-form
returns-in-Found-clause-form c = form_at c.self.inside.texts c.in-Found.n c.args.text.now c.self.invariant.forms c.in-Found.ensures.found

pub returns-in-Found-clause-small : goal.returns-in-Found-clause-small
returns-in-Found-clause-small c =
    let low = slice_get_within c.self.inside.texts c.in-Found.n c.args.text.now c.in-Found.ensures.found in
    omega (arith, low, c.self.invariant.few)
