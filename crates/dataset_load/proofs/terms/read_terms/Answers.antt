use Rattle.std.proofs.Common.{length, refl, arith}
use Rattle.dataset_load.proofs.TermSteps.{all_joined}
use Rattle.dataset_load.proofs.terms.read_terms.Goals as goal

pub returns-clause-terms : goal.returns-clause-terms
returns-clause-terms g c = λ terms forms.
    all_joined c.args.texts.now.texts terms c.add_parts.new.dict (length c.args.texts.now.texts) c.loop-first.first forms refl
    (omega (arith, c.loop-first-test.false, c.parts_in-count.ensures.count)) (c.in_ok-add_parts.ensures.added terms c.loop-first.first (c.loop-first.invariant.terms terms forms))
