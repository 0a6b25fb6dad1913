use Rattle.std.proofs.Common.{arith}
use Rattle.dataset_load.proofs.BuildingSteps.{lists_built, terms_built}
use Rattle.dataset_load.proofs.building.first_round.Goals as goal

pub returns-clause-lists : goal.returns-clause-lists
returns-clause-lists g c =
    let all = rw c.in-All.is at c.in_ok-built.ensures.outcome in
    lists_built c.args.quads.now c.args.texts.now.texts c.in-All.built.items (omega (arith, all.count)) (λ i d low. all.each i d (omega (arith, low, all.count)))

pub returns-clause-terms : goal.returns-clause-terms
returns-clause-terms g c =
    let all = rw c.in-All.is at c.in_ok-built.ensures.outcome in
    terms_built c.args.quads.now c.args.texts.now.texts c.in-All.built.items (omega (arith, all.count)) (λ i d low. all.each i d (omega (arith, low, all.count)))
