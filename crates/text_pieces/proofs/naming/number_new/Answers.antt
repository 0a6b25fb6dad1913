use Rattle.std.proofs.Common.{◌≡◌, ◌++◌, Some, ap, sym, subst, ◌∙◌}
use Rattle.nquads_scan.specs.Canonical.{IsFound}
use Rattle.nquads_scan.specs.declared.canonical_text.Form.TheVariants.{Same, Other}
use Rattle.text_dict.specs.Forms.{IsForm}
use Rattle.text_pieces.specs.Slices.{IsPlaced}
use Rattle.text_pieces.proofs.NamingLaws.{form_of_slice, numbered_slice}
use Rattle.text_pieces.proofs.naming.number_new.Goals as goal

pub number_lacking-requires-clause-form : goal.number_lacking-requires-clause-form
number_lacking-requires-clause-form c =
    let is : c.in_ok-canonical.field-0 ≡ Some Same = c.in-Some-Same.is ∙ ap Some c.in-Some-Same.field-0-is in
    let found = subst (IsFound c.args.raw.now c.clear.new.self.items c.canonical.new.out.items) is c.in_ok-canonical.ensures.found in
    subst IsForm (sym c.as_bytes.ensures.value) (form_of_slice c.args.raw.now c.args.raw.now found.0)

pub number_text-requires-clause-form : goal.number_text-requires-clause-form
number_text-requires-clause-form c =
    let is : c.in_ok-canonical.field-0 ≡ Some Other = c.in-Some-Other.is ∙ ap Some c.in-Some-Other.field-0-is in
    let found = subst (IsFound c.args.raw.now c.clear.new.self.items c.canonical.new.out.items) is c.in_ok-canonical.ensures.found in
    let text : c.as_slice.result.now ≡ found.0 = c.as_slice.ensures.value ∙ found.2 ∙ ap (λ l. l ++ found.0) c.clear.ensures.items in
    subst IsForm (sym text) (form_of_slice c.args.raw.now found.0 found.1)

pub returns-in_ok-number_lacking-in-Some-Same-clause-number : goal.returns-in_ok-number_lacking-in-Some-Same-clause-number
returns-in_ok-number_lacking-in-Some-Same-clause-number c =
    let is : c.in_ok-canonical.field-0 ≡ Some Same = c.in-Some-Same.is ∙ ap Some c.in-Some-Same.field-0-is in
    let found = subst (IsFound c.args.raw.now c.clear.new.self.items c.canonical.new.out.items) is c.in_ok-canonical.ensures.found in
    let n = c.in_ok-number_lacking-in-Some-Same.field-0 in
    numbered_slice c.args.dict.now.texts c.args.new.now.texts c.number_lacking.new.new.texts c.args.raw.now c.args.raw.now n found.0
    (subst (λ t. IsPlaced c.args.dict.now.texts c.args.new.now.texts c.number_lacking.new.new.texts t n) c.as_bytes.ensures.value c.in_ok-number_lacking-in-Some-Same.ensures.number)

pub returns-in_ok-number_text-in-Some-Other-clause-number : goal.returns-in_ok-number_text-in-Some-Other-clause-number
returns-in_ok-number_text-in-Some-Other-clause-number c =
    let is : c.in_ok-canonical.field-0 ≡ Some Other = c.in-Some-Other.is ∙ ap Some c.in-Some-Other.field-0-is in
    let found = subst (IsFound c.args.raw.now c.clear.new.self.items c.canonical.new.out.items) is c.in_ok-canonical.ensures.found in
    let text : c.as_slice.result.now ≡ found.0 = c.as_slice.ensures.value ∙ found.2 ∙ ap (λ l. l ++ found.0) c.clear.ensures.items in
    let n = c.in_ok-number_text-in-Some-Other.field-0 in
    numbered_slice c.args.dict.now.texts c.args.new.now.texts c.number_text.new.new.texts c.args.raw.now found.0 n found.1
    (subst (λ t. IsPlaced c.args.dict.now.texts c.args.new.now.texts c.number_text.new.new.texts t n) text c.in_ok-number_text-in-Some-Other.ensures.number)
