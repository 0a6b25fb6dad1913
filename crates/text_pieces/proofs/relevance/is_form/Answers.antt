use Rattle.std.proofs.Common.{◌≡◌, Some, ap, ◌∙◌, subst}
use Rattle.nquads_scan.specs.Canonical.{IsFound}
use Rattle.nquads_scan.specs.declared.canonical_text.Form.TheVariants.{Same}
use Rattle.text_pieces.proofs.RelevanceSteps.{form_found}
use Rattle.text_pieces.proofs.relevance.is_form.Goals as goal

pub returns-in-Some-Same : goal.returns-in-Some-Same
returns-in-Some-Same c =
    let is : c.in_ok-canonical.field-0 ≡ Some Same = c.in-Some-Same.is ∙ ap Some c.in-Some-Same.field-0-is in
    let found = subst (IsFound c.args.raw.now c.clear.new.self.items c.canonical.new.out.items) is c.in_ok-canonical.ensures.found in
    record { same = λ _. form_found c.args.raw.now found.0 }
