use Rattle.std.proofs.Common.{◌≡◌, ◌++◌, Some, slice_get, subst}
use Rattle.text_dict.specs.Forms.{IsForm}
use Rattle.text_pieces.proofs.NamingLaws.{numbered_slice, placed_known, slice_of_form}
use Rattle.text_pieces.proofs.naming.number_slice.Goals as goal

pub returns-in-Some-clause-number : goal.returns-in-Some-clause-number
returns-in-Some-clause-number c =
    let dict = c.args.dict.now.texts in
    let new = c.args.new.now.texts in
    let raw = c.args.raw.now in
    let n = c.in-Some.n in
    let at : slice_get (dict ++ new) n ≡ Some raw = subst (λ t. slice_get (dict ++ new) n ≡ Some t) c.as_bytes.ensures.value c.in-Some.ensures.number.0 in
    numbered_slice dict new new raw raw n (slice_of_form raw (subst IsForm c.as_bytes.ensures.value c.in-Some.ensures.number.1)) (placed_known dict new raw n at)
