use Rattle.std.proofs.Common.{arith}
use Rattle.dataset_load.proofs.TermSteps.{parts_of}
use Rattle.dataset_load.proofs.terms.parts_of.Goals as goal

pub returns-in-Ok-All-clause-parts : goal.returns-in-Ok-All-clause-parts
returns-in-Ok-All-clause-parts c = λ terms forms.
    let all = rw c.in-Ok-All.field-0-is at (rw c.in-Ok-All.is at c.requires.outcome) in
    parts_of c.in-Ok-All.parts.items terms c.args.job.now.first (λ i d low. all.each i d (omega (arith, low, all.count)) terms forms)
